use Rattle.std.proofs.Common.{◌≡◌, sym, refl, subst, codes, inl, inr, IfNone, IfSome, Some}
use Rattle.clap.specs.Words.{found_of, rows_of}
use Rattle.ospf_words.specs.Job.{IsFaultOfValue}
use Rattle.ospf_words.specs.Unasked.{HasNoChoice, IsWrongValue, in_path}
use Rattle.ospf_words.specs.Words.{AreChoices, words_for}
use Rattle.ospf_words.proofs.WordLemmas.{err_kept, texts_of, value_weaker, wrong_from, wrong_to, words_found}
use Rattle.ospf_words.proofs.words.path_job.Goals as goal

pub returns-in_default-clause-ok : goal.returns-in_default-clause-ok
returns-in_default-clause-ok c =
    let found = found_of c.args.values.now in
    in_path (rows_of found) refl (inl (sym c.in_default.ensures))

pub returns-in_default-word_of-clause-ok : goal.returns-in_default-word_of-clause-ok
returns-in_default-word_of-clause-ok c =
    let found = found_of c.args.values.now in
    in_path (rows_of found) refl (inr (inl (sym c.in_default-word_of.ensures)))

pub returns-in_default-2-clause-ok : goal.returns-in_default-2-clause-ok
returns-in_default-2-clause-ok c =
    let found = found_of c.args.values.now in
    let words : texts_of c.unwrap_or-words.result.now ≡ words_for (codes "choices") (rows_of found) =
    (words_found c.all_of.result _ c.unwrap_or-words.result _ refl c.unwrap_or-words.ensures c.all_of.ensures) in
    in_path (rows_of found) refl (inr (inr (subst HasNoChoice words (subst (λ o. IfNone o (HasNoChoice (texts_of c.unwrap_or-words.result.now))) c.in_default-2.is c.in_ok-choices.ensures.none))))

pub returns-in_err-from-clause-fault : goal.returns-in_err-from-clause-fault
returns-in_err-from-clause-fault c =
    let found = found_of c.args.values.now in
    let rows = rows_of found in
    let wrong = IsFaultOfValue (IsWrongValue (Some (codes "path", rows))) in
    err_kept c.from_residual-in_err-from.result (λ f. f ≡ c.in_err-from.field-0.0) wrong c.from_residual-in_err-from.ensures.1 (λ f is. subst wrong (sym is)
    (value_weaker _ _ c.in_err-from.field-0.0
    (λ w h. wrong_from rows c.in-Some.from.now c.in-Some-word_of.address.now w (sym c.in-Some.ensures)
    (sym c.in-Some-word_of.ensures) h)
    c.in_err-from.ensures.fault))

pub returns-in_err-address-clause-fault : goal.returns-in_err-address-clause-fault
returns-in_err-address-clause-fault c =
    let found = found_of c.args.values.now in
    let rows = rows_of found in
    let wrong = IsFaultOfValue (IsWrongValue (Some (codes "path", rows))) in
    err_kept c.from_residual-in_err-address.result (λ f. f ≡ c.in_err-address.field-0.0) wrong c.from_residual-in_err-address.ensures.1 (λ f is. subst wrong (sym is)
    (value_weaker _ _ c.in_err-address.field-0.0
    (λ w h. wrong_to rows c.in-Some.from.now c.in_ok-from.from c.in-Some-word_of.address.now w (sym c.in-Some.ensures)
    (sym c.in-Some-word_of.ensures) (search (c.in_ok-from.ensures.value)) h)
    c.in_err-address.ensures.fault))

pub returns-clause-ok : goal.returns-clause-ok
returns-clause-ok c =
    let found = found_of c.args.values.now in
    let rows = rows_of found in
    let words : texts_of c.unwrap_or-words.result.now ≡ words_for (codes "choices") rows =
    (words_found c.all_of.result _ c.unwrap_or-words.result _ refl c.unwrap_or-words.ensures c.all_of.ensures) in (
      rows,
      refl,
      record {
        from_text = c.in-Some.from.now;
        has_from = sym c.in-Some.ensures;
        from_is = search (c.in_ok-from.ensures.value);
        address_text = c.in-Some-word_of.address.now;
        has_address = sym c.in-Some-word_of.ensures;
        address_is = search (c.in_ok-address.ensures.value);
        choices_are = subst (λ texts. AreChoices texts c.in-Some-2.choices.items) words (subst (λ o. IfSome o (λ v. AreChoices (texts_of c.unwrap_or-words.result.now) v.items)) c.in-Some-2.is c.in_ok-choices.ensures.some);
      },
    )
