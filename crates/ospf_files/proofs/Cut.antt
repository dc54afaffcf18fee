-- What is cut by a failure, and the statuses of failures.
use Rattle.std.proofs.Common.{◌≡◌, subst, sym, Result, Ok, Err, IfErr, OnErr, OnOk}
use Rattle.std.specs.Result.{IsErrAnd}
use Rattle.ospf_files.specs.Status.{failure_status}
use Rattle.ospf_files.specs.declared.status.Failure.{Failure}
use Rattle.ospf_files.specs.declared.status.Failure.TheVariants as failure
use Rattle.ospf_files.specs.declared.status.Status.TheVariants as status

-- where memory ran out, what holds of want of memory
pub for_memory : {T : Type 0} (r : Result T Failure) (P : Failure → Type 0) → IsErrAnd r (λ f. f ≡ failure.Memory) → P failure.Memory → IfErr r P
for_memory (Ok x) P is p = tt
for_memory (Err f) P is p = subst P (sym is) p

-- what holds of a failure that is passed on
pub for_failure : {T : Type 0} (r : Result T Failure) (g : Failure) (P : Failure → Type 0) → IsErrAnd r (λ f. f ≡ g) → P g → IfErr r P
for_failure (Ok x) g P is p = tt
for_failure (Err f) g P is p = subst P (sym is) p

-- what follows where all is well, and what follows where it is not
pub ok_then : {T E P Q : Type 0} (r : Result T E) → (P → Q) → OnOk r P → OnOk r Q
ok_then (Ok x) f h = f h
ok_then (Err e) f h = tt

pub err_then : {T E P Q : Type 0} (r : Result T E) → (P → Q) → OnErr r P → OnErr r Q
err_then (Ok x) f h = tt
err_then (Err e) f h = f h

-- what follows of a failure and of what was written then
pub cut_then : {T E P : Type 0} (r : Result T E) (Q R : E → Type 0) → ((e : E) → P → Q e → R e) → OnErr r P → IfErr r Q → IfErr r R
cut_then (Ok x) Q R f p q = tt
cut_then (Err e) Q R f p q = f e p q

-- what holds whatever the answer is
pub always : {T E P : Type 0} (r : Result T E) → P → OnOk r P
always (Ok x) p = p
always (Err e) p = tt

-- a failure is not done, not refused, and no matter of words
pub failed_not_done : (f : Failure) → failure_status f ≡ status.Done → ⊥
failed_not_done failure.Memory is = absurd (cc is)
failed_not_done failure.Input is = absurd (cc is)
failed_not_done failure.Output is = absurd (cc is)
failed_not_done failure.Error is = absurd (cc is)
failed_not_done failure.Closed is = absurd (cc is)

pub failed_not_refused : (f : Failure) → failure_status f ≡ status.Refused → ⊥
failed_not_refused failure.Memory is = absurd (cc is)
failed_not_refused failure.Input is = absurd (cc is)
failed_not_refused failure.Output is = absurd (cc is)
failed_not_refused failure.Error is = absurd (cc is)
failed_not_refused failure.Closed is = absurd (cc is)

pub failed_not_words : (f : Failure) → failure_status f ≡ status.Words → ⊥
failed_not_words failure.Memory is = absurd (cc is)
failed_not_words failure.Input is = absurd (cc is)
failed_not_words failure.Output is = absurd (cc is)
failed_not_words failure.Error is = absurd (cc is)
failed_not_words failure.Closed is = absurd (cc is)
