-- What a survey tells.
use Rattle.std.specs.Prelude.{◌≡◌, length, vec_items}
use Rattle.frozen.specs.Freezing.{declared_by}
use Rattle.levels.specs.Chains.{Round}
use Rattle.network.specs.Tables.{Parts}
use Rattle.precedence.specs.Direct.{Directly}
use Rattle.survey.specs.declared.survey.Order.{Order}
use Rattle.survey.specs.declared.survey.Order.TheVariants as order
use Rattle.survey.specs.declared.survey.Survey.{Survey}
use Rattle.survey.specs.declared.survey.Totals.{Totals}

-- how many things of each sort are declared
abbrev pub counted : Parts → Totals
counted p = record { reactors = p.reactors; inputs = length p.inputs; outputs = length p.outputs; timers = length p.timers; actions = length p.actions; connections = length p.connections; reactions = length p.reactions; stop = p.stop }

-- the frozen network, or a circle
abbrev pub Orders : Parts → Order → Type 0
Orders p (order.Levels n) = declared_by n ≡ p
Orders p (order.Circle v) = Round (Directly p) (vec_items v)

pub record Surveys (p : Parts) (s : Survey) : Type 0 where
  pub totals : s.totals ≡ counted p
  pub order : Orders p s.order
