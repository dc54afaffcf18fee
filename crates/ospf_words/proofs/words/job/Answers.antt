use Rattle.std.proofs.Common.{◌≡◌, inl, subst, sym, IfNone}
use Rattle.ospf_words.specs.Unasked.{IsNoneUnending, IsUnasked, IsUncounted}
use Rattle.ospf_words.specs.declared.jobs.JobFault.TheVariants as fault
use Rattle.ospf_words.proofs.WordLemmas.{err_kept, texts_of, unending_unasked}
use Rattle.ospf_words.proofs.words.job.Goals as goal

pub returns-in_err-job-in-Err-Words-clause-fault : goal.returns-in_err-job-in-Err-Words-clause-fault
returns-in_err-job-in-Err-Words-clause-fault c =
    let words = texts_of c.args.words.now in
    err_kept c.from_residual.result (λ f. f ≡ c.in_err-job-in-Err-Words.field-0.0) (IsUnasked words) c.from_residual.ensures.1
    (λ f is. subst (IsUnasked words) (sym is) (unending_unasked words c.in_err-job-in-Err-Words.field-0.0 c.in_err-job-in-Err-Words.ensures.fault))

pub returns-in-None-clause-fault : goal.returns-in-None-clause-fault
returns-in-None-clause-fault c =
    let words = texts_of c.args.words.now in
    let uncounted : IsUncounted words (fault.Words c.in-Err-Words.error) = subst (IsUncounted words) c.in-Err-Words.field-0-is c.in-Err-Words.ensures.fault in
    inl (uncounted, subst (λ found. IfNone found (IsNoneUnending words)) c.in-None.is c.in_ok-job-in-Err-Words.ensures.none)

pub returns-in-Err-Address-clause-fault : goal.returns-in-Err-Address-clause-fault
returns-in-Err-Address-clause-fault c =
    let words = texts_of c.args.words.now in
    let uncounted : IsUncounted words (fault.Address c.in-Err-Address.word) = subst (IsUncounted words) c.in-Err-Address.field-0-is c.in-Err-Address.ensures.fault in
    inl uncounted
