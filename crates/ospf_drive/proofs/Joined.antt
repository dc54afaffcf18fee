-- Lists of threads and of what came of them.
use Rattle.std.proofs.Common.{◌≡◌, ◌++◌, ℕ, suc, List, [], ◌∷◌, Result, Ok, Err, length, refl, sym, subst, ap, ◌∙◌, append_assoc}
use Rattle.std.proofs.lemmas.List.{append-nil}
use Rattle.std.specs.List.{AllZip}
use Rattle.ospf_drive.specs.Driven.{IsDriven, IsThreadJoined, IsDriverStarted, Outcome}
use Rattle.ospf_drive.specs.Machines.{Rules}
use Rattle.ospf_drive.specs.Moments.{Moment}
use Rattle.ospf_drive.specs.declared.fault.DriveFault.{DriveFault}

-- and one pair more
pub pairs_then : {A B : Type 0} (P : A → B → Type 0) (xs : List A) (ys : List B) (x : A) (y : B) → AllZip P xs ys → P x y → AllZip P (xs ++ x ∷ []) (ys ++ y ∷ [])
pairs_then P [] [] x y ps p = (p, tt)
pairs_then P [] (z ∷ ys) x y ps p = absurd ps
pairs_then P (w ∷ xs) [] x y ps p = absurd ps
pairs_then P (w ∷ xs) (z ∷ ys) x y ps p = (ps.0, pairs_then P xs ys x y ps.1 p)

-- what came of a thread that was started there
joined : (rules : Rules) (a : Moment) (thread : Result Moment DriveFault) (outcome : Outcome) → IsDriverStarted a thread → IsThreadJoined rules thread outcome → IsDriven rules a outcome
joined rules a (Ok begins) outcome started is = subst (λ (m : Moment). IsDriven rules m outcome) started is
joined rules a (Err f) outcome started is = subst (λ (o : Outcome). IsDriven rules a o) (sym (is ∙ ap (λ (g : DriveFault). Err g) started)) tt

-- what came of all
pub all_joined : {J : Type 0} (rules : Rules) (begins : J → Moment) (jobs : List J) (threads : List (Result Moment DriveFault)) (outcomes : List Outcome) → AllZip (λ job thread. IsDriverStarted (begins job) thread) jobs threads → AllZip (IsThreadJoined rules) threads outcomes → AllZip (λ job outcome. IsDriven rules (begins job) outcome) jobs outcomes
all_joined rules begins [] [] [] ps qs = tt
all_joined rules begins [] [] (o ∷ os) ps qs = absurd qs
all_joined rules begins [] (t ∷ ts) os ps qs = absurd ps
all_joined rules begins (j ∷ js) [] os ps qs = absurd ps
all_joined rules begins (j ∷ js) (t ∷ ts) [] ps qs = absurd qs
all_joined rules begins (j ∷ js) (t ∷ ts) (o ∷ os) ps qs = (joined rules (begins j) t o ps.0 qs.0, all_joined rules begins js ts os ps.1 qs.1)

-- one more is taken off what is left
pub walked_on : {A : Type 0} (all yielded left later : List A) (x : A) → all ≡ yielded ++ left → left ≡ x ∷ later → all ≡ (yielded ++ x ∷ []) ++ later
walked_on all yielded left later x walked step = walked ∙ ap (λ xs. yielded ++ xs) step ∙ sym (append_assoc yielded (x ∷ []) later)

-- a list of no length
no_length : {A : Type 0} (xs : List A) → length xs ≡ 0 → xs ≡ []
no_length [] none = refl
no_length (x ∷ xs) none = cc

-- none is left
pub all_gone : {A B : Type 0} (P : A → B → Type 0) (all yielded left : List A) (ys : List B) → all ≡ yielded ++ left → length left ≡ 0 → AllZip P yielded ys → AllZip P all ys
all_gone P all yielded left ys walked none ps =
    subst (λ (xs : List _). AllZip P xs ys) (sym (walked ∙ ap (λ xs. yielded ++ xs) (no_length left none) ∙ append-nil yielded)) ps

-- the one list is as long as the other
pub as_many : {A B : Type 0} (P : A → B → Type 0) (xs : List A) (ys : List B) → AllZip P xs ys → length xs ≡ length ys
as_many P [] [] ps = refl
as_many P [] (y ∷ ys) ps = absurd ps
as_many P (x ∷ xs) [] ps = absurd ps
as_many P (x ∷ xs) (y ∷ ys) ps = ap (λ (n : ℕ). suc n) (as_many P xs ys ps.1)
