use Rattle.std.proofs.Common.{◌≡◌, ◌++◌, ℕ, IfNone, IfOk, IfSome, List, append_assoc, decimal, subst, sym, ◌∙◌}
use Rattle.std.specs.Prelude.{codes}
use Rattle.ospf_base.specs.Text.{number_text}
use Rattle.ospf_change.specs.Edit.Change.{IsCost}
use Rattle.ospf_change.specs.Edit.Words.{pair_front}
use Rattle.ospf_change.proofs.edit.words.cost_of_pair.Goals as goal

pub returns-clause-some : goal.returns-clause-some
returns-clause-some c =
    let front : c.deref.result.now ≡ pair_front c.args.router c.args.other =
    c.deref.ensures ∙ c.in_ok-front.ensures.ok
    ∙ sym (append_assoc (number_text c.args.router.0 ++ codes "-") (number_text c.args.other.0) (codes "=") ∙ append_assoc (number_text c.args.router.0) (codes "-") (number_text c.args.other.0 ++ codes "=")) in
    subst (λ (f : List ℕ). IfOk c.cost_behind.result (λ found. IfSome found (λ n. IsCost n × (c.args.word.now ≡ f ++ decimal n)))) front c.cost_behind.ensures.some

pub returns-clause-none : goal.returns-clause-none
returns-clause-none c =
    let front : c.deref.result.now ≡ pair_front c.args.router c.args.other =
    c.deref.ensures ∙ c.in_ok-front.ensures.ok
    ∙ sym (append_assoc (number_text c.args.router.0 ++ codes "-") (number_text c.args.other.0) (codes "=") ∙ append_assoc (number_text c.args.router.0) (codes "-") (number_text c.args.other.0 ++ codes "=")) in
    subst (λ (f : List ℕ). IfOk c.cost_behind.result (λ found. IfNone found ((n : ℕ) → IsCost n → c.args.word.now ≡ f ++ decimal n → ⊥))) front c.cost_behind.ensures.none
