use Rattle.std.proofs.Common.{rules, ◌≡◌, ◌++◌, ◌∷◌, [], List, ap, subst, sym, ◌∙◌, append_assoc, string_bytes}
use Rattle.std.proofs.lemmas.List.{append-nil}
use Rattle.ospf_lsa.specs.declared.link.Link.{Link}
use Rattle.ospf_inspect.specs.Lines.{AreLines, no_lines}
use Rattle.ospf_inspect.specs.Lsas.{SaysOfLink}
use Rattle.ospf_inspect.proofs.LineLemmas.{lines_more, lines_at}
use Rattle.ospf_inspect.proofs.lsas.links_text.Goals as goal

pub loop-link-init : goal.loop-link-init
loop-link-init c = record {
  walked = sym c.into_iter-link-iterator.ensures.into_iter_gives;
  said = λ adverts at. lines_at (SaysOfLink adverts c.args.router) [] (sym (search (rules, c.new-text.ensures.bytes))) no_lines;
}

pub loop-link-preserved : goal.loop-link-preserved
loop-link-preserved c = record {
  walked =
      c.loop-link.invariant.walked ∙ ap (λ t. c.loop-link.yielded ++ t) c.in-Some.ensures.steps
      ∙ sym (append_assoc c.loop-link.yielded (c.in-Some.link ∷ []) c.next.new.self);
  said = λ adverts at.
      let text : string_bytes c.push_str.new.self ≡ string_bytes c.loop-link.text ++ string_bytes c.in_ok-link_text.field-0 = search rules in
      lines_at (SaysOfLink adverts c.args.router) _ (sym text)
      (lines_more (SaysOfLink adverts c.args.router) c.loop-link.yielded c.in-Some.link (string_bytes c.loop-link.text) (string_bytes c.in_ok-link_text.field-0) (c.loop-link.invariant.said adverts at) (c.in_ok-link_text.ensures adverts at));
}

pub returns : goal.returns
returns c = λ adverts at.
    let all : c.args.links ≡ c.loop-link.yielded = c.loop-link.invariant.walked ∙ ap (λ t. c.loop-link.yielded ++ t) c.in-None.ensures.steps.0 ∙ append-nil c.loop-link.yielded in
    subst (λ (xs : List Link). AreLines (SaysOfLink adverts c.args.router) xs (string_bytes c.loop-link.text)) (sym all) (c.loop-link.invariant.said adverts at)
