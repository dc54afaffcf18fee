use Rattle.std.specs.Cmp.Lexicographic.{bytes_decides}
use Rattle.std.proofs.Common.{◌≡◌, ◌∙◌, ap, inl, inr, sym, refl, subst, codes, Some}
use Rattle.clap.specs.Words.{found_of, rows_of}
use Rattle.ospf_words.specs.Job.{IsFaultOfValue}
use Rattle.ospf_words.specs.Unasked.{IsNoCarrier, IsWrongValue, in_failures}
use Rattle.ospf_words.specs.Words.{IsCarrier}
use Rattle.ospf_words.proofs.WordLemmas.{err_kept, told_by, value_weaker, wrong_failing_root}
use Rattle.ospf_words.proofs.words.failures_job.Goals as goal

pub returns-in_default-clause-ok : goal.returns-in_default-clause-ok
returns-in_default-clause-ok c =
    let found = found_of c.args.values.now in
    in_failures (rows_of found) refl (inl (sym c.in_default.ensures))

pub returns-in_default-failures_form-clause-ok : goal.returns-in_default-failures_form-clause-ok
returns-in_default-failures_form-clause-ok c =
    let found = found_of c.args.values.now in
    in_failures (rows_of found) refl (inr (inl (
      c.has_flag-json.result,
      c.has_flag-json2.result,
      c.has_flag-harm.result,
      record { json_is = c.has_flag-json.ensures; json2_is = c.has_flag-json2.ensures; harm_is = c.has_flag-harm.ensures },
      sym c.in_default-failures_form.ensures,
    )))

pub returns-in_default-carrier_of-clause-ok : goal.returns-in_default-carrier_of-clause-ok
returns-in_default-carrier_of-clause-ok c =
    let found = found_of c.args.values.now in
    in_failures (rows_of found) refl (inr (inr (subst IsNoCarrier c.word_of-2.ensures c.in_default-carrier_of.ensures.none)))

pub returns-in_err-root-clause-fault : goal.returns-in_err-root-clause-fault
returns-in_err-root-clause-fault c =
    let found = found_of c.args.values.now in
    let rows = rows_of found in
    let is_root = sym c.in-Some.ensures in
    let wrong = IsFaultOfValue (IsWrongValue (Some (codes "failures", rows))) in
    err_kept c.from_residual.result (λ f. f ≡ c.in_err-root.field-0.0) wrong c.from_residual.ensures.1 (λ f is. subst wrong (sym is)
    (value_weaker _ _ c.in_err-root.field-0.0 (λ w h. wrong_failing_root rows c.in-Some.word.now w is_root h)
    c.in_err-root.ensures.fault))

pub returns-then-eq-clause-ok : goal.returns-then-eq-clause-ok
returns-then-eq-clause-ok c =
    let found = found_of c.args.values.now in
    let all : c.in-Some.word.now ≡ codes "all" = (bytes_decides c.in-Some.word.now (codes "all")).0 (sym c.eq.ensures ∙ c.if-eq.true) in (
      rows_of found,
      refl,
      record {
        has_all = sym c.in-Some.ensures ∙ ap Some all;
        each_is = c.has_flag-each.ensures;
        strict_is = c.has_flag-strict.ensures;
        form_is = told_by (rows_of found) c.has_flag-json.result c.has_flag-json2.result c.has_flag-harm.result c.in-Some-failures_form.form
            c.in-Some-failures_form.ensures
            (record { json_is = c.has_flag-json.ensures; json2_is = c.has_flag-json2.ensures; harm_is = c.has_flag-harm.ensures });
        carrier_is = subst (λ o. IsCarrier o c.in-Some-carrier_of.carrier) c.word_of-2.ensures c.in-Some-carrier_of.ensures.some;
      },
    )

pub returns-clause-ok : goal.returns-clause-ok
returns-clause-ok c =
    let found = found_of c.args.values.now in (
      rows_of found,
      refl,
      record {
        text = c.in-Some.word.now;
        has_root = sym c.in-Some.ensures;
        root_is = search (c.in_ok-root.ensures.value);
        each_is = c.has_flag-each.ensures;
        strict_is = c.has_flag-strict.ensures;
        form_is = told_by (rows_of found) c.has_flag-json.result c.has_flag-json2.result c.has_flag-harm.result c.in-Some-failures_form.form
            c.in-Some-failures_form.ensures
            (record { json_is = c.has_flag-json.ensures; json2_is = c.has_flag-json2.ensures; harm_is = c.has_flag-harm.ensures });
        carrier_is = subst (λ o. IsCarrier o c.in-Some-carrier_of.carrier) c.word_of-2.ensures c.in-Some-carrier_of.ensures.some;
      },
    )
