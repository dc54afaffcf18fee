-- Rounds behind which nothing that is seen has changed.
use Rattle.std.proofs.Common.{◌≡◌, ◌∙◌, ap, sym, subst, refl, true, false, ◌+◌, ◌-◌, ◌<◌, ◌≤◌, ℕ, zero, suc, List, [], ◌∷◌, Option, None, Some, Result, Ok, Err, length, add-one, arith}
use Rattle.ospf_commands.specs.Rounds.{IsOneRound}
use Rattle.ospf_commands.specs.Settling.{ArePassed, IsStillFor, NeverStillFor, Passes, Settles, does_not_settle, has_ended, has_not_settled, has_settled, has_stormed, left_over, no_room_ends_it, round_ends_it, round_leaves_some, rounds_to_stay, settled_line, settles, settling_offers, sight, storm_line, unsettled_line}
use Rattle.ospf_config.specs.declared.address.InterfaceAddress.{InterfaceAddress}
use Rattle.ospf_base.specs.declared.event.event.WorldFault.{WorldFault}
use Rattle.ospf_base.specs.declared.event.event.WorldFault.TheVariants as fault
use Rattle.ospf_commands.specs.declared.settle.Outcome.{Outcome}
use Rattle.ospf_commands.specs.declared.settle.Outcome.TheVariants as outcome
use Rattle.ospf_commands.specs.declared.simulation.Simulation.{Simulation}

-- so many rounds have passed, behind none of which it was still for long enough, and it has now been still for so many
pub record Passed (still : ℕ) (start now : Simulation) (done unchanged : ℕ) : Type 0 where
  pub passed : List Simulation
  pub are : ArePassed start (now ∷ passed)
  pub never : NeverStillFor still passed
  pub count : length passed ≡ done
  pub same : IsStillFor unchanged (now ∷ passed)
  pub no_more : IsStillFor (suc unchanged) (now ∷ passed) → ⊥

pub passed_none : (still : ℕ) (start : Simulation) → Passed still start start 0 0
passed_none still start = record { passed = []; are = refl; never = tt; count = refl; same = tt; no_more = λ h. h }

-- still for so many, and so for fewer
pub still_for_fewer : (n m : ℕ) (passed : List Simulation) → m ≤ n → IsStillFor n passed → IsStillFor m passed
still_for_fewer n zero passed fewer h = tt
still_for_fewer zero (suc m) passed fewer h = absurd (omega arith)
still_for_fewer (suc n) (suc m) [] fewer h = h
still_for_fewer (suc n) (suc m) (now ∷ []) fewer h = h
still_for_fewer (suc n) (suc m) (now ∷ before ∷ passed) fewer h = (h.0, still_for_fewer n m (before ∷ passed) (omega arith) h.1)

pub not_still : (still unchanged : ℕ) (passed : List Simulation) → unchanged < still → (IsStillFor (suc unchanged) passed → ⊥) → IsStillFor still passed → ⊥
not_still still unchanged passed fewer no_more h = no_more (still_for_fewer still (suc unchanged) passed (omega arith) h)

pub never_yet : (still : ℕ) (start now : Simulation) (done unchanged : ℕ) → unchanged < still → (p : Passed still start now done unchanged) → NeverStillFor still (now ∷ p.passed)
never_yet still start now done unchanged fewer p = (not_still still unchanged (now ∷ p.passed) fewer p.no_more, p.never)

pub passed_same : (still : ℕ) (start before now : Simulation) (done unchanged : ℕ) → unchanged < still → Passed still start before done unchanged
    → IsOneRound settling_offers before (Ok tt) now → left_over now.world ≡ None → sight now ≡ sight before → Passed still start now (done + 1) (unchanged + 1)
passed_same still start before now done unchanged fewer p round none unseen =
    subst (λ n. Passed still start now n (unchanged + 1)) (sym (add-one done)) (subst (λ n. Passed still start now (suc done) n) (sym (add-one unchanged))
    (record {
      passed = before ∷ p.passed;
      are = (round, none, p.are);
      never = never_yet still start before done unchanged fewer p;
      count = ap suc p.count;
      same = (unseen, p.same);
      no_more = λ h. p.no_more h.1;
    }))

pub passed_other : (still : ℕ) (start before now : Simulation) (done unchanged : ℕ) → unchanged < still → Passed still start before done unchanged
    → IsOneRound settling_offers before (Ok tt) now → left_over now.world ≡ None → (sight now ≡ sight before → ⊥) → Passed still start now (done + 1) 0
passed_other still start before now done unchanged fewer p round none seen =
    subst (λ n. Passed still start now n 0) (sym (add-one done))
    (record {
      passed = before ∷ p.passed;
      are = (round, none, p.are);
      never = never_yet still start before done unchanged fewer p;
      count = ap suc p.count;
      same = tt;
      no_more = λ h. seen h.0;
    })

-- no more rounds were still than there were
still_within : (n : ℕ) (now : Simulation) (passed : List Simulation) → IsStillFor n (now ∷ passed) → n ≤ length passed
still_within zero now passed h = omega arith
still_within (suc n) now [] h = absurd h
still_within (suc n) now (before ∷ passed) h =
    let less : n ≤ length passed = still_within n before passed h.1 in
    omega arith

pub rounds_over_still : (most still : ℕ) (s s' : Simulation) (result : Result Outcome WorldFault) (rounds : ℕ) → result ≡ Ok (outcome.Settled rounds) → Passes most still s result s'
    → still ≤ rounds
rounds_over_still most still s s' result rounds is (settles passed are quiet never within same) =
    let same_answer : Ok (outcome.Settled rounds) ≡ Ok (outcome.Settled (length passed)) = sym is ∙ same in
    let one : rounds ≡ length passed = cc in
    subst (λ n. still ≤ n) (sym one) (still_within still s' passed quiet)
rounds_over_still most still s s' result rounds is (does_not_settle passed are never count same) =
    absurd (let no : Ok (outcome.Settled rounds) ≡ Ok outcome.Unsettled = sym is ∙ same in cc)
rounds_over_still most still s s' result rounds is (round_ends_it now passed f are never within round same) =
    absurd (let no : Ok (outcome.Settled rounds) ≡ Err f = sym is ∙ same in cc)
rounds_over_still most still s s' result rounds is (round_leaves_some now passed from are never within round left same) =
    absurd (let no : Ok (outcome.Settled rounds) ≡ Ok (outcome.Storms from) = sym is ∙ same in cc)
rounds_over_still most still s s' result rounds is (no_room_ends_it passed are never within same) =
    absurd (let no : Ok (outcome.Settled rounds) ≡ Err (fault.Memory false) = sym is ∙ same in cc)

-- ---- how it ends

pub no_room_at_start : (most still : ℕ) (s : Simulation) → Passes most still s (Err (fault.Memory false)) s
no_room_at_start most still s = no_room_ends_it [] refl tt (omega arith) refl

pub ends_settled : (most still : ℕ) (s now : Simulation) (done unchanged : ℕ) → done ≤ most → still ≤ unchanged → Passed still s now done unchanged
    → Passes most still s (Ok (outcome.Settled done)) now
ends_settled most still s now done unchanged within enough p =
    settles p.passed p.are (still_for_fewer unchanged still (now ∷ p.passed) enough p.same) p.never (subst (λ n. n ≤ most) (sym p.count) within)
    (ap (λ (n : ℕ). Ok (outcome.Settled n)) (sym p.count))

pub ends_unsettled : (most still : ℕ) (s now : Simulation) (unchanged : ℕ) → unchanged < still → Passed still s now most unchanged → Passes most still s (Ok outcome.Unsettled) now
ends_unsettled most still s now unchanged fewer p = does_not_settle p.passed p.are (never_yet still s now most unchanged fewer p) p.count refl

pub ends_in_round : (most still : ℕ) (s now s' : Simulation) (done unchanged : ℕ) (f : WorldFault) → done < most → unchanged < still → Passed still s now done unchanged
    → IsOneRound settling_offers now (Err f) s' → Passes most still s (Err f) s'
ends_in_round most still s now s' done unchanged f within fewer p round =
    round_ends_it now p.passed f p.are (never_yet still s now done unchanged fewer p) (subst (λ n. n < most) (sym p.count) within) round refl

pub no_room_behind : (most still : ℕ) (s before now : Simulation) (done unchanged : ℕ) → done < most → unchanged < still → Passed still s before done unchanged
    → IsOneRound settling_offers before (Ok tt) now → left_over now.world ≡ None → Passes most still s (Err (fault.Memory false)) now
no_room_behind most still s before now done unchanged within fewer p round none =
    no_room_ends_it (before ∷ p.passed) (round, none, p.are) (never_yet still s before done unchanged fewer p)
    (subst (λ n. suc n ≤ most) (sym p.count) (omega arith)) refl

pub ends_in_storm : (most still : ℕ) (s now s' : Simulation) (done unchanged : ℕ) (from : Option InterfaceAddress) → done < most → unchanged < still → Passed still s now done unchanged
    → IsOneRound settling_offers now (Ok tt) s' → left_over s'.world ≡ Some from → Passes most still s (Ok (outcome.Storms from)) s'
ends_in_storm most still s now s' done unchanged from within fewer p round left =
    round_leaves_some now p.passed from p.are (never_yet still s now done unchanged fewer p) (subst (λ n. n < most) (sym p.count) within) round left refl

-- ---- what is told of it

pub settled_so : (most still : ℕ) (s now : Simulation) (result : Result Outcome WorldFault) (rounds : ℕ) → still ≡ rounds_to_stay s → result ≡ Ok (outcome.Settled rounds)
    → Passes most still s result now → Settles most s (Ok tt) (settled_line (rounds - still) still) (record now { is_settled = true })
settled_so most still s now result rounds still_is is p =
    has_settled rounds now (subst (λ n. Passes most n s (Ok (outcome.Settled rounds)) now) still_is (subst (λ r. Passes most still s r now) is p)) refl
    (ap (λ (n : ℕ). settled_line (rounds - n) n) still_is) refl

pub unsettled_so : (most still : ℕ) (s now : Simulation) (result : Result Outcome WorldFault) → still ≡ rounds_to_stay s → result ≡ Ok outcome.Unsettled → Passes most still s result now
    → Settles most s (Ok tt) (unsettled_line most still) now
unsettled_so most still s now result still_is is p =
    has_not_settled (subst (λ n. Passes most n s (Ok outcome.Unsettled) now) still_is (subst (λ r. Passes most still s r now) is p)) refl
    (ap (λ (n : ℕ). unsettled_line most n) still_is)

pub stormed_so : (most still : ℕ) (s now : Simulation) (result : Result Outcome WorldFault) (from : Option InterfaceAddress) → still ≡ rounds_to_stay s → result ≡ Ok (outcome.Storms from)
    → Passes most still s result now → Settles most s (Ok tt) (storm_line from) now
stormed_so most still s now result from still_is is p =
    has_stormed from (subst (λ n. Passes most n s (Ok (outcome.Storms from)) now) still_is (subst (λ r. Passes most still s r now) is p)) refl refl

pub ended_so : (most still : ℕ) (s now : Simulation) (result : Result Outcome WorldFault) (f : WorldFault) → still ≡ rounds_to_stay s → result ≡ Err f → Passes most still s result now
    → Settles most s (Err f) [] now
ended_so most still s now result f still_is is p =
    has_ended f (subst (λ n. Passes most n s (Err f) now) still_is (subst (λ r. Passes most still s r now) is p)) refl refl
