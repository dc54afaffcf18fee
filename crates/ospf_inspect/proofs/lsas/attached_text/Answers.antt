use Rattle.std.proofs.Common.{rules, ◌≡◌, ◌++◌, ◌∷◌, [], List, ap, subst, sym, ◌∙◌, append_assoc, string_bytes}
use Rattle.std.proofs.lemmas.List.{append-nil}
use Rattle.ospf_base.specs.declared.ids.RouterId.{RouterId}
use Rattle.ospf_inspect.specs.Lines.{AreLines, no_lines}
use Rattle.ospf_inspect.specs.Lsas.{SaysOfAttached}
use Rattle.ospf_inspect.proofs.LineLemmas.{lines_more, lines_at}
use Rattle.ospf_inspect.proofs.lsas.attached_text.Goals as goal

pub loop-router-init : goal.loop-router-init
loop-router-init c = record {
  walked = sym c.into_iter-router-iterator.ensures.into_iter_gives;
  said = λ adverts at. lines_at (SaysOfAttached adverts c.args.network) [] (sym (search (rules, c.new-text.ensures.bytes))) no_lines;
}

pub loop-router-preserved : goal.loop-router-preserved
loop-router-preserved c = record {
  walked =
      c.loop-router.invariant.walked ∙ ap (λ t. c.loop-router.yielded ++ t) c.in-Some.ensures.steps
      ∙ sym (append_assoc c.loop-router.yielded (c.in-Some.router ∷ []) c.next.new.self);
  said = λ adverts at.
      let text : string_bytes c.push_str.new.self ≡ string_bytes c.loop-router.text ++ string_bytes c.in_ok-member_text.field-0 = search rules in
      lines_at (SaysOfAttached adverts c.args.network) _ (sym text)
      (lines_more (SaysOfAttached adverts c.args.network) c.loop-router.yielded c.in-Some.router (string_bytes c.loop-router.text) (string_bytes c.in_ok-member_text.field-0) (c.loop-router.invariant.said adverts at) (c.in_ok-member_text.ensures adverts at));
}

pub returns : goal.returns
returns c = λ adverts at.
    let all : c.args.attached ≡ c.loop-router.yielded = c.loop-router.invariant.walked ∙ ap (λ t. c.loop-router.yielded ++ t) c.in-None.ensures.steps.0 ∙ append-nil c.loop-router.yielded in
    subst (λ (xs : List RouterId). AreLines (SaysOfAttached adverts c.args.network) xs (string_bytes c.loop-router.text)) (sym all) (c.loop-router.invariant.said adverts at)
