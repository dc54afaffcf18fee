use Rattle.std.proofs.Common.{◌≡◌, ◌∙◌, ap, inl, inr, sym, refl, subst, codes, false, true, Bor, List, ℕ, option_map, string_bytes, Some}
use Rattle.clap.specs.Words.{found_of, rows_of}
use Rattle.ospf_words.specs.Job.{IsFaultOfValue}
use Rattle.ospf_words.specs.Unasked.{IsNoRouter, IsWrongValue, in_diff}
use Rattle.ospf_words.specs.Words.{IsRouterIfAny}
use Rattle.ospf_words.proofs.WordLemmas.{err_kept, value_weaker, wrong_compared}
use Rattle.ospf_words.proofs.words.diff_job.Goals as goal

pub returns-in_default-clause-ok : goal.returns-in_default-clause-ok
returns-in_default-clause-ok c = in_diff (rows_of (found_of c.args.values.now)) refl (inl (sym c.in_default.ensures))

pub returns-in_default-word_of-clause-ok : goal.returns-in_default-word_of-clause-ok
returns-in_default-word_of-clause-ok c = in_diff (rows_of (found_of c.args.values.now)) refl (inr (inl (sym c.in_default-word_of.ensures)))

pub returns-then-are_both_input-clause-ok : goal.returns-then-are_both_input-clause-ok
returns-then-are_both_input-clause-ok c =
    let both = c.are_both_input.ensures.0 c.if-are_both_input.true in
    in_diff (rows_of (found_of c.args.values.now)) refl (inr (inr (sym c.in-Some.ensures ∙ ap Some both.0, sym c.in-Some-word_of.ensures ∙ ap Some both.1)))

pub returns-in_err-root-clause-fault : goal.returns-in_err-root-clause-fault
returns-in_err-root-clause-fault c =
    let rows = rows_of (found_of c.args.values.now) in
    let wrong = IsFaultOfValue (IsWrongValue (Some (codes "diff", rows))) in
    err_kept c.from_residual.result (λ f. f ≡ c.in_err-root.field-0.0) wrong c.from_residual.ensures.1
    (λ f is. subst wrong (sym is) (value_weaker (λ w. (option_map (λ (q : Bor (List ℕ)). q.now) c.word_of-3.result ≡ Some w) × IsNoRouter w) (IsWrongValue (Some (codes "diff", rows))) c.in_err-root.field-0.0
    (λ w h. wrong_compared rows w (sym c.word_of-3.ensures ∙ h.0) h.1) c.in_err-root.ensures.fault))

pub returns-clause-ok : goal.returns-clause-ok
returns-clause-ok c =
    let rows = rows_of (found_of c.args.values.now) in
    let before : string_bytes c.in_ok-before.before ≡ c.in-Some.before.now = c.in_ok-before.ensures.ok in
    let after : string_bytes c.in_ok-after.after ≡ c.in-Some-word_of.after.now = c.in_ok-after.ensures.ok in (
      rows,
      refl,
      record {
        has_before = sym c.in-Some.ensures ∙ ap Some (sym before);
        has_after = sym c.in-Some-word_of.ensures ∙ ap Some (sym after);
        apart = λ is_before is_after. absurd (let wrong : true ≡ false = sym (c.are_both_input.ensures.1 (sym before ∙ is_before, sym after ∙ is_after)) ∙ c.if-are_both_input.false in cc);
        root = subst (λ o. IsRouterIfAny o c.in_ok-root.root) c.word_of-3.ensures c.in_ok-root.ensures.value;
      },
    )
