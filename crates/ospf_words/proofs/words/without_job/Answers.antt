use Rattle.std.proofs.Common.{◌≡◌, ◌∙◌, ap, inr, sym, refl, subst, codes, map, Some, string_bytes, inl}
use Rattle.std.specs.Cmp.Lexicographic.{bytes_decides}
use Rattle.clap.specs.Words.{found_of, rows_of}
use Rattle.ospf_words.specs.Job.{IsFaultOfValue}
use Rattle.ospf_words.specs.Unasked.{IsFirstWrong, IsWrongValue, in_table}
use Rattle.ospf_words.specs.Words.{Spell, words_for}
use Rattle.ospf_words.proofs.WordLemmas.{address_wrong, err_kept, no_names, not_word, root_wrong, some_texts, texts_of, value_weaker, wrong_value, words_found}
use Rattle.ospf_words.proofs.words.without_job.Goals as goal

pub returns-in_default-clause-ok : goal.returns-in_default-clause-ok
returns-in_default-clause-ok c =
    let found = found_of c.args.values.now in
    in_table (rows_of found) refl (inl (sym c.in_default.ensures))

pub returns-in_err-root-clause-fault : goal.returns-in_err-root-clause-fault
returns-in_err-root-clause-fault c =
    let found = found_of c.args.values.now in
    let rows = rows_of found in
    let texts = words_for (codes "addresses") rows in
    let is_root = sym c.in-Some.ensures in
    let one : c.in-Some.root.now ≡ codes "all" → ⊥ = not_word c.in-Some.root.now (codes "all") c.eq.result (sym c.eq.ensures) c.if-eq.false in
    let wrong = IsFaultOfValue (IsWrongValue (Some (codes "table", rows))) in
    err_kept c.from_residual.result (λ f. f ≡ c.in_err-root.field-0.0) wrong c.from_residual.ensures.1 (λ f is. subst wrong (sym is)
    (value_weaker _ _ c.in_err-root.field-0.0 (λ w h. wrong_value rows c.in-Some.root.now w is_root one (root_wrong c.in-Some.root.now texts w h))
    c.in_err-root.ensures.fault))

pub returns-in_err-addresses-clause-fault : goal.returns-in_err-addresses-clause-fault
returns-in_err-addresses-clause-fault c =
    let found = found_of c.args.values.now in
    let rows = rows_of found in
    let is_root = sym c.in-Some.ensures in
    let one : c.in-Some.root.now ≡ codes "all" → ⊥ = not_word c.in-Some.root.now (codes "all") c.eq.result (sym c.eq.ensures) c.if-eq.false in
    let addresses : texts_of c.unwrap_or-addresses.result.now ≡ words_for (codes "addresses") rows =
    (words_found c.all_of.result _ c.unwrap_or-addresses.result _ refl c.unwrap_or-addresses.ensures c.all_of.ensures) in
    let wrong = IsFaultOfValue (IsWrongValue (Some (codes "table", rows))) in
    err_kept c.from_residual-in_err-addresses.result (λ f. f ≡ c.in_err-addresses.field-0.0) wrong
    c.from_residual-in_err-addresses.ensures.1 (λ f is. subst wrong (sym is)
    (value_weaker _ _ c.in_err-addresses.field-0.0
    (λ w h. wrong_value rows c.in-Some.root.now w is_root one
    (address_wrong c.in-Some.root.now c.in_ok-root.root _ w c.in_ok-root.ensures.value
    (subst (λ texts. IsFirstWrong texts w) addresses h)))
    c.in_err-addresses.ensures.fault))

pub returns-then-eq-clause-ok : goal.returns-then-eq-clause-ok
returns-then-eq-clause-ok c =
    let found = found_of c.args.values.now in
    let rows = rows_of found in
    let all : c.in-Some.root.now ≡ codes "all" = (bytes_decides c.in-Some.root.now (codes "all")).0 (sym c.eq.ensures ∙ c.if-eq.true) in
    in_table rows refl (inr (inr (inl (
      sym c.in-Some.ensures ∙ ap Some all,
      inr (λ none. no_names c.args.names.now c.requires.some (c.requires.names ∙ none)),
    ))))

pub returns-clause-ok : goal.returns-clause-ok
returns-clause-ok c =
    let found = found_of c.args.values.now in
    let rows = rows_of found in
    let addresses : texts_of c.unwrap_or-addresses.result.now ≡ words_for (codes "addresses") rows =
    (words_found c.all_of.result _ c.unwrap_or-addresses.result _ refl c.unwrap_or-addresses.ensures c.all_of.ensures) in
    let names : map string_bytes c.in_ok-names.names.items ≡ texts_of c.args.names.now = search (c.in_ok-names.ensures) in (
      rows,
      refl,
      record {
        text = c.in-Some.root.now;
        has_root = sym c.in-Some.ensures;
        root_is = search (c.in_ok-root.ensures.value);
        addresses_are = subst (λ texts. Spell texts c.in_ok-addresses.addresses.items) addresses (search (c.in_ok-addresses.ensures.spelled));
        names_are = names ∙ c.requires.names;
        plain = c.requires.plain;
        json2 = c.requires.json2;
        some = some_texts string_bytes c.in_ok-names.names.items c.args.names.now names c.requires.some;
      },
    )
