-- What the definitions of the other crates give at chosen values.
use Rattle.std.specs.Prelude.{◌≡◌, ℕ, List, [], ◌∷◌, Some, None, codes}
use Rattle.frozen.specs.Freezing.{Circular}
use Rattle.network.specs.Assembling.{Assembled}
use Rattle.network.specs.Tables.{Parts}
use Rattle.tags.specs.Tags.{tag_at, tag_plus}

-- a reactor whose one reaction is triggered by an input and may set an output, with this line that joins them
abbrev pub joined_with_itself : List ℕ → List (List ℕ)
joined_with_itself connection = codes "RE\n" ∷ codes "IP 0\n" ∷ codes "OP 0\n" ∷ connection ∷ codes "RX 0 0\n" ∷ codes "TR 0 0 0\n" ∷ codes "WR 0 0\n" ∷ []

-- sums of a tag and a delay, and circles of reactions; examples of bodies join them as hosts come
pub record WorkedExamples : Type 0 where
  pub no_delay_leads_to_the_next_microstep : tag_plus (tag_at 7 3) 0 ≡ Some (tag_at 7 4)
  pub a_delay_leads_to_microstep_0_of_a_later_time : tag_plus (tag_at 7 3) 5 ≡ Some (tag_at 12 0)
  pub no_microstep_after_the_last : tag_plus (tag_at 7 65535) 0 ≡ None
  pub no_time_after_the_last : tag_plus (tag_at 1000000000000000000 0) 1 ≡ None
  pub an_undelayed_joining_with_itself_is_a_circle : (p : Parts) × (Assembled (joined_with_itself (codes "CN 0 0 0 0\n")) p × Circular p)
  pub a_delayed_joining_with_itself_is_none : (p : Parts) × (Assembled (joined_with_itself (codes "CN 0 0 1 0\n")) p × (Circular p → ⊥))
