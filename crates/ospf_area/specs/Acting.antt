-- What a part of a step makes of a router's area, and what it adds to the outputs so far.
use Rattle.std.specs.Prelude.{◌≡◌, ℕ, List, [], ◌∷◌, map}
use Rattle.ospf_area.specs.Outputs.{OutputsValue, SentValue}
use Rattle.ospf_area.specs.Places.{flat_from}
use Rattle.ospf_area.specs.Sending.{and_sends}
use Rattle.ospf_area.specs.State.{AreaValue, LinkValue}

-- the router becomes this, and all its outputs become that
pub record Becomes (made : AreaValue) (puts out' : OutputsValue) (after : AreaValue) : Type 0 where
  pub state : after ≡ made
  pub outputs : out' ≡ puts

-- what each of these does, one after the other
abbrev pub InTurn : {X : Type 0}
    → (X → AreaValue → OutputsValue → OutputsValue → AreaValue → Type 0) → List X → AreaValue
    → OutputsValue → OutputsValue → AreaValue → Type 0
InTurn Does [] before out out' after = Becomes before out out' after
InTurn Does (x ∷ xs) before out out' after =
    (mid : AreaValue) × (so_far : OutputsValue) × Does x before out so_far mid
    × InTurn Does xs mid so_far out' after

-- each link becomes another, and packets go out of each, in the order of the links
abbrev pub OnEachLink : (LinkValue → LinkValue) → (ℕ → LinkValue → List SentValue) → AreaValue
    → OutputsValue → OutputsValue → AreaValue → Type 0
OnEachLink change sends before out out' after =
    Becomes (record before { links = map change before.links })
    (and_sends out (flat_from sends 0 before.links)) out' after
