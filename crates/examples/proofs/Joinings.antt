-- What a reactor that is joined with itself declares, and when it is a circle.
use Rattle.std.proofs.Common.{◌≡◌, ℕ, suc, List, [], ◌∷◌, pos, Some, None, codes, Contains, refl, ap, inl, ⊎_elim, arith, rules}
use Rattle.std.specs.Fmt.{digits, signed_decimal}
use Rattle.std.proofs.lemmas.Int.{ints}
use Rattle.frozen.specs.Freezing.{Circular}
use Rattle.levels.specs.Chains.{Chain, stay, step}
use Rattle.levels.proofs.Members.{contains_cons, contains_none}
use Rattle.lines.specs.Reading.{Tells, reads}
use Rattle.lines.specs.Records.{mark_of}
use Rattle.lines.specs.Sections.{MayCome}
use Rattle.lines.specs.declared.records.ConnectionKind.{ConnectionKind}
use Rattle.lines.specs.declared.records.ConnectionKind.TheVariants.{Undelayed, Delayed}
use Rattle.lines.specs.declared.records.Field.{Field}
use Rattle.lines.specs.declared.records.Record.{Record}
use Rattle.lines.specs.declared.records.Record.TheVariants as said
use Rattle.lines.specs.declared.records.TriggerKind.TheVariants as trigger
use Rattle.lines.specs.declared.section.Section.TheVariants as section
use Rattle.network.specs.Assembling.{Assembled, Declares, none, more}
use Rattle.network.specs.Saying.{declares}
use Rattle.network.specs.Tables.{Parts}
use Rattle.network.specs.declared.parts.Connection.{Connection}
use Rattle.network.specs.declared.parts.Declaration.{Declaration}
use Rattle.network.specs.declared.parts.Declaration.TheVariants as declaration
use Rattle.network.specs.declared.parts.TargetKind.TheVariants as target
use Rattle.precedence.specs.Direct.{Directly, same_reactor, joined}
use Rattle.examples.specs.Worked.{joined_with_itself}

-- a field at this place, whose number is this
abbrev field : {T : Type 0} → ℕ → ℕ → T → Field T
field at number value = record { text = record { ref_ptr = (0, 0); now = signed_decimal (pos number) }; place = at; value = value }

abbrev count : ℕ → ℕ → Field ℕ
count at number = field at number number

-- a line that tells a record of a network declares what the record declares
declaring : {line : List ℕ} {d : Declaration} (r : Record) → MayCome section.Network (mark_of r) → declares r ≡ Some d → Tells line r → Declares line d
declaring r may meant tells = record { said = r; read = reads r may tells; meant = meant }

reactor : Declares (codes "RE\n") declaration.Reactor
reactor = declaring said.Reactor refl refl (search (arith, ints, rules))

input : Declares (codes "IP 0\n") (declaration.Input 0)
unfolding digits
input = declaring (said.Input (count 3 0)) refl refl (search (arith, ints, rules))

output : Declares (codes "OP 0\n") (declaration.Output 0)
unfolding digits
output = declaring (said.Output (count 3 0)) refl refl (search (arith, ints, rules))

undelayed : Declares (codes "CN 0 0 0 0\n") (declaration.Connection (record { output = 0; input = 0; kind = Undelayed; delay = 0 }))
unfolding digits
undelayed = declaring (said.Connection (count 3 0) (count 5 0) (field 7 0 Undelayed) (count 9 0)) refl refl (search (arith, ints, rules))

delayed : Declares (codes "CN 0 0 1 0\n") (declaration.Connection (record { output = 0; input = 0; kind = Delayed; delay = 0 }))
unfolding digits
delayed = declaring (said.Connection (count 3 0) (count 5 0) (field 7 1 Delayed) (count 9 0)) refl refl (search (arith, ints, rules))

reaction : Declares (codes "RX 0 0\n") (declaration.Reaction (record { reactor = 0; body = 0 }))
unfolding digits
reaction = declaring (said.Reaction (count 3 0) (count 5 0)) refl refl (search (arith, ints, rules))

triggered : Declares (codes "TR 0 0 0\n") (declaration.Trigger (record { reaction = 0; kind = trigger.Input; source = 0 }))
unfolding digits
triggered = declaring (said.Trigger (count 3 0) (field 5 0 trigger.Input) (count 7 0)) refl refl (search (arith, ints, rules))

writes : Declares (codes "WR 0 0\n") (declaration.Target (record { reaction = 0; kind = target.Output; number = 0 }))
unfolding digits
writes = declaring (said.Write (count 3 0) (count 5 0)) refl refl (search (arith, ints, rules))

-- what the lines declare, where the connection is of this kind
abbrev joining : ConnectionKind → Parts
joining kind = record {
  reactors = 1;
  inputs = 0 ∷ [];
  outputs = 0 ∷ [];
  timers = [];
  actions = [];
  connections = record { output = 0; input = 0; kind = kind; delay = 0 } ∷ [];
  reactions = record { reactor = 0; body = 0 } ∷ [];
  triggers = record { reaction = 0; kind = trigger.Input; source = 0 } ∷ [];
  targets = record { reaction = 0; kind = target.Output; number = 0 } ∷ [];
  stop = None;
}

assembled : (kind : ConnectionKind) (line : List ℕ) → Declares line (declaration.Connection (record { output = 0; input = 0; kind = kind; delay = 0 })) → Assembled (joined_with_itself line) (joining kind)
assembled kind line connection = more _ _ reactor refl (more _ _ input refl (more _ _ output refl (more _ _ connection refl (more _ _ reaction refl (more _ _ triggered refl (more _ _ writes refl none))))))

circle : Circular (joining Undelayed)
circle = record { node = 0; edges = 0; chain = step stay (joined 0 0 (omega arith) (omega arith) (omega arith) (0, omega arith, refl) (record { delay = 0; joins = (0, omega arith, refl) }) (inl (0, omega arith, refl))) }

none_undelayed : (o i d : ℕ) → Contains {X = Connection} (joining Delayed).connections (record { output = o; input = i; kind = Undelayed; delay = d }) → ⊥
none_undelayed o i d h =
    ⊎_elim
    (λ (e : record { output = 0; input = 0; kind = Delayed; delay = 0 } ≡ record { output = o; input = i; kind = Undelayed; delay = d }). let same : Delayed ≡ Undelayed = ap (λ c. c.kind) e in cc)
    (contains_none _)
    (contains_cons _ [] _ h)

no_edge : (a b : ℕ) → Directly (joining Delayed) a b → ⊥
no_edge a b (same_reactor before within same) = omega arith
no_edge a b (joined o i a-is b-is i-is sets joins takes) = none_undelayed o i joins.delay joins.joins

no_chain : {n a b : ℕ} → Chain (Directly (joining Delayed)) (suc n) a b → ⊥
no_chain (step before edge) = no_edge _ _ edge

pub undelayed_circle : (p : Parts) × (Assembled (joined_with_itself (codes "CN 0 0 0 0\n")) p × Circular p)
undelayed_circle = (joining Undelayed, (assembled Undelayed _ undelayed, circle))

pub delayed_none : (p : Parts) × (Assembled (joined_with_itself (codes "CN 0 0 1 0\n")) p × (Circular p → ⊥))
delayed_none = (joining Delayed, (assembled Delayed _ delayed, λ c. no_chain c.chain))
