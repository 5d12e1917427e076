-- Tags as a time and a microstep, their order, and a tag plus a delay.
use Rattle.std.specs.Prelude.{◌≡◌, ℕ, ◌+◌, ◌<◌, if◌then◌else◌, ◌&&◌, ◌⊎◌, Some, Option, ◌==◌, nat_le}
use Rattle.std.specs.Bool.{then_some}
use Rattle.tags.specs.declared.tag.Tag.{Tag}

-- a time in whole nanoseconds since the start, and a microstep at that time
pub record Moment : Type 0 where
  pub time : ℕ
  pub microstep : ℕ

abbrev pub tag_at : ℕ → ℕ → Moment
tag_at t m = record { time = t; microstep = m }

-- the moment that a tag of the code stands for
abbrev pub moment_of : Tag → Moment
moment_of g = tag_at g.time g.microstep

-- a tag's time and microstep go up to these, and what lies past either is beyond the horizon
abbrev pub last_time : ℕ
last_time = 1000000000000000000

abbrev pub last_microstep : ℕ
last_microstep = 65535

-- the moment itself, or none where it is beyond the horizon
abbrev pub within_horizon : Moment → Option Moment
within_horizon a = then_some (nat_le a.time last_time && nat_le a.microstep last_microstep) a

-- a delay of 0 leads to the next microstep, and any other to microstep 0 of a later time
abbrev pub delayed : Moment → ℕ → Moment
delayed a d = if d == 0 then tag_at a.time (a.microstep + 1) else tag_at (a.time + d) 0

-- a tag plus a delay
abbrev pub tag_plus : Moment → ℕ → Option Moment
tag_plus a d = within_horizon (delayed a d)

-- the tag plus the delay is beyond the horizon: no microstep is left, or the later time is past the last
abbrev pub BeyondHorizon : Moment → ℕ → Type 0
BeyondHorizon a d = ((d ≡ 0) × (a.microstep ≡ last_microstep)) ⊎ ((0 < d) × (last_time < a.time + d))

-- the order of tags: by time, then by microstep
abbrev pub Before : Moment → Moment → Type 0
Before a b = (a.time < b.time) ⊎ ((a.time ≡ b.time) × (a.microstep < b.microstep))

-- one of the three holds, and the other two do not
abbrev pub ExactlyOne : Type 0 → Type 0 → Type 0 → Type 0
ExactlyOne P Q R = (P × (Q → ⊥) × (R → ⊥)) ⊎ ((P → ⊥) × Q × (R → ⊥)) ⊎ ((P → ⊥) × (Q → ⊥) × R)

-- of two tags the one is before the other, equal to it or after it, and never two of these;
-- what is before a tag is before every tag that comes after that one
pub record TotalOrder : Type 0 where
  pub before_equal_or_after : (a b : Moment) → ExactlyOne (Before a b) (a ≡ b) (Before b a)
  pub transitive : (a b c : Moment) → Before a b → Before b c → Before a c

-- a sum, where there is one, is after the tag that it starts from
abbrev pub LaterThanItsStart : Type 0
LaterThanItsStart = (a b : Moment) (d : ℕ) → tag_plus a d ≡ Some b → Before a b
