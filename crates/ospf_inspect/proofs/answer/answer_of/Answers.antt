use Rattle.std.proofs.Common.{rules, ◌∙◌, ◌++◌, ℕ, List, ap, string_bytes}
use Rattle.ospf_inspect.specs.Answer.{head_for}
use Rattle.ospf_inspect.proofs.answer.answer_of.Goals as goal

pub returns : goal.returns
returns c =
    let head = string_bytes c.in_ok-text.text in
    let body = string_bytes c.in_ok-body.body in
    record {
      warns = c.in_ok-warnings.ensures;
      body = body;
      says = c.in_ok-body.ensures;
      text_is = c.in_ok-push_str.ensures.bytes ∙ ap (λ (l : List ℕ). head ++ l) c.deref-2.ensures
          ∙ ap (λ (l : List ℕ). l ++ body) (c.in_ok-text.ensures ∙ ap (λ (w : List ℕ). head_for c.args.job.now c.args.listing.now c.args.left_out w) c.deref.ensures);
      is_done = search rules;
    }
