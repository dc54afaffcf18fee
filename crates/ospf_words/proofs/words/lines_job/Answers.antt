use Rattle.std.proofs.Common.{arith, ◌≡◌, ◌<◌, ◌∙◌, ap, inl, inr, length, sym, refl, subst, codes, Some}
use Rattle.std.specs.Cmp.Lexicographic.{bytes_decides}
use Rattle.std.proofs.lemmas.Bool.Decides.{nat_tests}
use Rattle.std.proofs.lemmas.List.{nil_from_length}
use Rattle.clap.specs.Words.{found_of, one_of, rows_of}
use Rattle.ospf_words.specs.Job.{IsFaultOfValue}
use Rattle.ospf_words.specs.Unasked.{IsFirstWrong, IsWrongValue, in_table}
use Rattle.ospf_words.specs.Words.{IsFlag, Spell, words_for}
use Rattle.ospf_words.proofs.WordLemmas.{address_wrong, err_kept, not_word, root_wrong, some_words, texts_of, value_weaker, wrong_value, words_found}
use Rattle.ospf_words.proofs.words.lines_job.Goals as goal

pub returns-then-has_flag-clause-ok : goal.returns-then-has_flag-clause-ok
returns-then-has_flag-clause-ok c =
    let found = found_of c.args.values.now in
    in_table (rows_of found) refl (inr (inr (inr (inl (c.requires, subst (IsFlag (one_of (codes "json") (rows_of found))) c.if-has_flag.true c.has_flag.ensures)))))

pub returns-then-not-is_empty-clause-ok : goal.returns-then-not-is_empty-clause-ok
returns-then-not-is_empty-clause-ok c =
    let found = found_of c.args.values.now in
    let rows = rows_of found in
    let parts : texts_of c.unwrap_or-parts.result.now ≡ words_for (codes "without") rows =
    (words_found c.all_of.result _ c.unwrap_or-parts.result _ refl c.unwrap_or-parts.ensures c.all_of.ensures) in
    let some : 0 < length c.unwrap_or-parts.result.now = grind (arith, nat_tests, c.if-not-is_empty.true, c.is_empty.ensures) in
    in_table rows refl (inr (inr (inr (inr (c.requires, λ none. some_words c.unwrap_or-parts.result.now some (parts ∙ none))))))

pub returns-in_default-clause-ok : goal.returns-in_default-clause-ok
returns-in_default-clause-ok c =
    let found = found_of c.args.values.now in
    in_table (rows_of found) refl (inl (sym c.in_default.ensures))

pub returns-then-not-is_empty-2-clause-ok : goal.returns-then-not-is_empty-2-clause-ok
returns-then-not-is_empty-2-clause-ok c =
    let found = found_of c.args.values.now in
    let rows = rows_of found in
    let all : c.in-Some.root.now ≡ codes "all" = (bytes_decides c.in-Some.root.now (codes "all")).0 (sym c.eq.ensures ∙ c.if-eq.true) in
    let addresses : texts_of c.unwrap_or-texts.result.now ≡ words_for (codes "addresses") rows =
    (words_found c.all_of-2.result _ c.unwrap_or-texts.result _ refl c.unwrap_or-texts.ensures c.all_of-2.ensures) in
    let some : 0 < length c.unwrap_or-texts.result.now = grind (arith, nat_tests, c.if-not-is_empty-2.true, c.is_empty-then-eq.ensures) in
    in_table rows refl (inr (inr (inl (
      sym c.in-Some.ensures ∙ ap Some all,
      inl (λ none. some_words c.unwrap_or-texts.result.now some (addresses ∙ none)),
    ))))

pub returns-in_err-root-clause-fault : goal.returns-in_err-root-clause-fault
returns-in_err-root-clause-fault c =
    let found = found_of c.args.values.now in
    let rows = rows_of found in
    let texts = words_for (codes "addresses") rows in
    let is_root = sym c.in-Some.ensures in
    let one : c.in-Some.root.now ≡ codes "all" → ⊥ = not_word c.in-Some.root.now (codes "all") c.eq.result (sym c.eq.ensures) c.if-eq.false in
    let wrong = IsFaultOfValue (IsWrongValue (Some (codes "table", rows))) in
    err_kept c.from_residual.result (λ f. f ≡ c.in_err-root.field-0.0) wrong c.from_residual.ensures.1 (λ f is. subst wrong (sym is)
    (value_weaker _ _ c.in_err-root.field-0.0 (λ w h. wrong_value rows c.in-Some.root.now w is_root one (root_wrong c.in-Some.root.now texts w h))
    c.in_err-root.ensures.fault))

pub returns-in_err-addresses-clause-fault : goal.returns-in_err-addresses-clause-fault
returns-in_err-addresses-clause-fault c =
    let found = found_of c.args.values.now in
    let rows = rows_of found in
    let is_root = sym c.in-Some.ensures in
    let one : c.in-Some.root.now ≡ codes "all" → ⊥ = not_word c.in-Some.root.now (codes "all") c.eq.result (sym c.eq.ensures) c.if-eq.false in
    let addresses : texts_of c.unwrap_or-texts.result.now ≡ words_for (codes "addresses") rows =
    (words_found c.all_of-2.result _ c.unwrap_or-texts.result _ refl c.unwrap_or-texts.ensures c.all_of-2.ensures) in
    let wrong = IsFaultOfValue (IsWrongValue (Some (codes "table", rows))) in
    err_kept c.from_residual-in_err-addresses.result (λ f. f ≡ c.in_err-addresses.field-0.0) wrong
    c.from_residual-in_err-addresses.ensures.1 (λ f is. subst wrong (sym is)
    (value_weaker _ _ c.in_err-addresses.field-0.0
    (λ w h. wrong_value rows c.in-Some.root.now w is_root one
    (address_wrong c.in-Some.root.now c.in_ok-root.root _ w c.in_ok-root.ensures.value
    (subst (λ texts. IsFirstWrong texts w) addresses h)))
    c.in_err-addresses.ensures.fault))

pub returns-then-eq-clause-ok : goal.returns-then-eq-clause-ok
returns-then-eq-clause-ok c =
    let found = found_of c.args.values.now in
    let rows = rows_of found in
    let all : c.in-Some.root.now ≡ codes "all" = (bytes_decides c.in-Some.root.now (codes "all")).0 (sym c.eq.ensures ∙ c.if-eq.true) in
    let parts : texts_of c.unwrap_or-parts.result.now ≡ words_for (codes "without") rows =
    (words_found c.all_of.result _ c.unwrap_or-parts.result _ refl c.unwrap_or-parts.ensures c.all_of.ensures) in
    let whole = sym parts ∙ ap texts_of (nil_from_length c.unwrap_or-parts.result.now (grind (arith, nat_tests, c.if-not-is_empty.false, c.is_empty.ensures))) in
    let addresses : texts_of c.unwrap_or-texts.result.now ≡ words_for (codes "addresses") rows =
    (words_found c.all_of-2.result _ c.unwrap_or-texts.result _ refl c.unwrap_or-texts.ensures c.all_of-2.ensures) in
    let alone = sym addresses ∙ ap texts_of (nil_from_length c.unwrap_or-texts.result.now (grind (arith, nat_tests, c.if-not-is_empty-2.false, c.is_empty-then-eq.ensures))) in (
      rows,
      refl,
      record {
        has_all = sym c.in-Some.ensures ∙ ap Some all;
        alone = alone;
        whole = whole;
        plain = subst (IsFlag (one_of (codes "json") rows)) c.if-has_flag.false c.has_flag.ensures;
        json2 = c.requires;
      },
    )

pub returns-clause-ok : goal.returns-clause-ok
returns-clause-ok c =
    let found = found_of c.args.values.now in
    let rows = rows_of found in
    let parts : texts_of c.unwrap_or-parts.result.now ≡ words_for (codes "without") rows =
    (words_found c.all_of.result _ c.unwrap_or-parts.result _ refl c.unwrap_or-parts.ensures c.all_of.ensures) in
    let whole = sym parts ∙ ap texts_of (nil_from_length c.unwrap_or-parts.result.now (grind (arith, nat_tests, c.if-not-is_empty.false, c.is_empty.ensures))) in
    let addresses : texts_of c.unwrap_or-texts.result.now ≡ words_for (codes "addresses") rows =
    (words_found c.all_of-2.result _ c.unwrap_or-texts.result _ refl c.unwrap_or-texts.ensures c.all_of-2.ensures) in (
      rows,
      refl,
      record {
        text = c.in-Some.root.now;
        has_root = sym c.in-Some.ensures;
        root_is = search (c.in_ok-root.ensures.value);
        addresses_are = subst (λ texts. Spell texts c.in_ok-addresses.addresses.items) addresses (search (c.in_ok-addresses.ensures.spelled));
        whole = whole;
        plain = subst (IsFlag (one_of (codes "json") rows)) c.if-has_flag.false c.has_flag.ensures;
        json2 = c.requires;
      },
    )
