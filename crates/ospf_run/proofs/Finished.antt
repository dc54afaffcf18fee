-- Routers whose drivers have ended, one after the other.
use Rattle.std.proofs.Common.{◌≡◌, ◌≢◌, ◌<◌, ℕ, List, [], ◌∷◌, length, arith, Option}
use Rattle.ospf_base.specs.declared.ids.Addr.{Addr}
use Rattle.ospf_config.specs.declared.config.Config.{Config}
use Rattle.ospf_drive.specs.Driven.{Outcome as Driven}
use Rattle.ospf_drive.specs.Machines.{Rules}
use Rattle.ospf_drive.specs.Moments.{Moment}
use Rattle.ospf_files.specs.declared.files.NamedFile.{NamedFile}
use Rattle.ospf_run.specs.Runs.{Came, IsOutcome, Ran, RouterRan, Terms}
use Rattle.ospf_run.specs.declared.outcome.Outcome.{Outcome}
use Rattle.ospf_run.specs.declared.look.RouterSeat.{RouterSeat}

-- a router has run
pub has_run : {rules : Rules} {terms : Terms} {config : Config} {driven : Driven} {router_seat : RouterSeat} (h : RouterRan rules terms config driven router_seat) → Ran rules h.a driven router_seat
has_run {rules} h = record {
  opened = h.begins.opened;
  ended = h.ended;
  looks = h.looks;
}

-- what came of it
pub outcome_of : {rules : Rules} {terms : Terms} {config : Config} {driven : Driven} {router_seat : RouterSeat} (lookup : Option Addr) (file : NamedFile) (h : RouterRan rules terms config driven router_seat) (outcome : Outcome)
    → outcome.file.now ≡ file → outcome.router ≡ config.router_id
    → ((a : Moment) → Ran rules a driven router_seat → Came rules lookup a outcome.came) → IsOutcome rules lookup terms file config outcome
outcome_of {rules} lookup file h outcome file_is router_is came = record {
  file_is = file_is;
  router_is = router_is;
  a = h.a;
  begins = h.begins;
  counted = h.counted;
  came = came h.a (has_run h);
}

-- there is a file, where one has a place
pub is_any : {A : Type 0} (xs : List A) (i : ℕ) → i < length xs → xs ≢ []
is_any [] i within none = omega (arith, within)
is_any (x ∷ xs) i within none = absurd (cc none)
