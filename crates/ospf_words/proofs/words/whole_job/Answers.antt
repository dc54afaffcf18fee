use Rattle.std.proofs.Common.{arith, ◌≡◌, ◌<◌, ◌∙◌, ap, inl, length, sym, refl, subst, codes, Some, inr}
use Rattle.std.specs.Cmp.Lexicographic.{bytes_decides}
use Rattle.std.proofs.lemmas.Bool.Decides.{nat_tests}
use Rattle.std.proofs.lemmas.List.{nil_from_length}
use Rattle.clap.specs.Words.{found_of, rows_of}
use Rattle.ospf_words.specs.Job.{IsFaultOfValue}
use Rattle.ospf_words.specs.Unasked.{IsFirstWrong, IsWrongValue, in_table}
use Rattle.ospf_words.specs.Words.{Spell, words_for}
use Rattle.ospf_words.proofs.WordLemmas.{address_wrong, err_kept, not_word, root_wrong, some_words, texts_of, value_weaker, wrong_value, words_found}
use Rattle.ospf_words.proofs.words.whole_job.Goals as goal

pub returns-in_default-clause-ok : goal.returns-in_default-clause-ok
returns-in_default-clause-ok c =
    let found = found_of c.args.values.now in
    in_table (rows_of found) refl (inl (sym c.in_default.ensures))

pub returns-in_err-parsed-clause-fault : goal.returns-in_err-parsed-clause-fault
returns-in_err-parsed-clause-fault c =
    let found = found_of c.args.values.now in
    let rows = rows_of found in
    let texts = words_for (codes "addresses") rows in
    let is_root = sym c.in-Some.ensures in
    let one : c.in-Some.root.now ≡ codes "all" → ⊥ = not_word c.in-Some.root.now (codes "all") c.eq.result (sym c.eq.ensures) c.if-eq.false in
    let wrong = IsFaultOfValue (IsWrongValue (Some (codes "table", rows))) in
    err_kept c.from_residual.result (λ f. f ≡ c.in_err-parsed.field-0.0) wrong c.from_residual.ensures.1 (λ f is. subst wrong (sym is)
    (value_weaker _ _ c.in_err-parsed.field-0.0 (λ w h. wrong_value rows c.in-Some.root.now w is_root one (root_wrong c.in-Some.root.now texts w h))
    c.in_err-parsed.ensures.fault))

pub returns-in_err-parsed_addresses-clause-fault : goal.returns-in_err-parsed_addresses-clause-fault
returns-in_err-parsed_addresses-clause-fault c =
    let found = found_of c.args.values.now in
    let rows = rows_of found in
    let is_root = sym c.in-Some.ensures in
    let one : c.in-Some.root.now ≡ codes "all" → ⊥ = not_word c.in-Some.root.now (codes "all") c.eq.result (sym c.eq.ensures) c.if-eq.false in
    let addresses : texts_of c.unwrap_or-addresses.result.now ≡ words_for (codes "addresses") rows =
    (words_found c.all_of.result _ c.unwrap_or-addresses.result _ refl c.unwrap_or-addresses.ensures c.all_of.ensures) in
    let wrong = IsFaultOfValue (IsWrongValue (Some (codes "table", rows))) in
    err_kept c.from_residual-in_err-parsed_addresses.result (λ f. f ≡ c.in_err-parsed_addresses.field-0.0) wrong
    c.from_residual-in_err-parsed_addresses.ensures.1 (λ f is. subst wrong (sym is)
    (value_weaker _ _ c.in_err-parsed_addresses.field-0.0
    (λ w h. wrong_value rows c.in-Some.root.now w is_root one
    (address_wrong c.in-Some.root.now c.in_ok-parsed.field-0 _ w c.in_ok-parsed.ensures.value
    (subst (λ texts. IsFirstWrong texts w) addresses h)))
    c.in_err-parsed_addresses.ensures.fault))

pub returns-then-eq-clause-ok : goal.returns-then-eq-clause-ok
returns-then-eq-clause-ok c =
    let found = found_of c.args.values.now in
    let rows = rows_of found in
    let all : c.in-Some.root.now ≡ codes "all" = (bytes_decides c.in-Some.root.now (codes "all")).0 (sym c.eq.ensures ∙ c.if-eq.true) in
    let addresses : texts_of c.unwrap_or-addresses.result.now ≡ words_for (codes "addresses") rows =
    (words_found c.all_of.result _ c.unwrap_or-addresses.result _ refl c.unwrap_or-addresses.ensures c.all_of.ensures) in
    let empty = nil_from_length c.unwrap_or-addresses.result.now (grind (arith, nat_tests, c.if-not-is_empty.false, c.is_empty.ensures)) in (
      rows,
      refl,
      sym c.in-Some.ensures ∙ ap Some all,
      sym addresses ∙ ap texts_of empty,
      c.requires.whole,
      c.requires.plain,
      c.requires.json2,
    )

pub returns-then-not-is_empty-clause-ok : goal.returns-then-not-is_empty-clause-ok
returns-then-not-is_empty-clause-ok c =
    let found = found_of c.args.values.now in
    let rows = rows_of found in
    let all : c.in-Some.root.now ≡ codes "all" = (bytes_decides c.in-Some.root.now (codes "all")).0 (sym c.eq.ensures ∙ c.if-eq.true) in
    let addresses : texts_of c.unwrap_or-addresses.result.now ≡ words_for (codes "addresses") rows =
    (words_found c.all_of.result _ c.unwrap_or-addresses.result _ refl c.unwrap_or-addresses.ensures c.all_of.ensures) in
    let some : 0 < length c.unwrap_or-addresses.result.now = grind (arith, nat_tests, c.if-not-is_empty.true, c.is_empty.ensures) in
    in_table rows refl (inr (inr (inl (
      sym c.in-Some.ensures ∙ ap Some all,
      inl (λ none. some_words c.unwrap_or-addresses.result.now some (addresses ∙ none)),
    ))))

pub returns-clause-ok : goal.returns-clause-ok
returns-clause-ok c =
    let found = found_of c.args.values.now in
    let rows = rows_of found in
    let addresses : texts_of c.unwrap_or-addresses.result.now ≡ words_for (codes "addresses") rows =
    (words_found c.all_of.result _ c.unwrap_or-addresses.result _ refl c.unwrap_or-addresses.ensures c.all_of.ensures) in (
      rows,
      refl,
      record {
        text = c.in-Some.root.now;
        has_root = sym c.in-Some.ensures;
        root = search (c.in_ok-parsed.ensures.value);
        addresses = subst (λ texts. Spell texts c.in_ok-parsed_addresses.field-0.items) addresses (search (c.in_ok-parsed_addresses.ensures.spelled));
        whole = c.requires.whole;
        plain = c.requires.plain;
        json2 = c.requires.json2;
      },
    )
