use Rattle.std.proofs.Common.{◌≡◌, ◌++◌, ◌∷◌, [], List, ap, append_assoc, append-nil, subst, sym, ◌∙◌}
use Rattle.ospf_lsa.specs.declared.link.Link.{Link}
use Rattle.ospf_change.specs.Edit.Words.{IsCostWordAt, IsCostWordOf}
use Rattle.ospf_change.specs.declared.edit.change.Change.{Change}
use Rattle.ospf_change.proofs.Edits.WordLemmas.{of_more}
use Rattle.ospf_change.proofs.edit.words.cost_among.Goals as goal

pub loop-link-preserved : goal.loop-link-preserved
loop-link-preserved c =
    let here : (d : Change) → IsCostWordAt c.args.router c.in-Some.link c.args.word.now d → ⊥ = rw c.in_default.is at c.in_ok-change.ensures.none in
    record {
      walked =
          c.loop-link.invariant.walked ∙ ap (λ t. c.loop-link.yielded ++ t) c.in-Some.ensures.steps
          ∙ sym (append_assoc c.loop-link.yielded (c.in-Some.link ∷ []) c.next.new.self);
      none = λ d. of_more c.args.word.now d c.args.router c.loop-link.yielded c.in-Some.link (c.loop-link.invariant.none d) (here d);
    }

pub returns-clause-none : goal.returns-clause-none
returns-clause-none c =
    let all : c.args.links ≡ c.loop-link.yielded = c.loop-link.invariant.walked ∙ ap (λ t. c.loop-link.yielded ++ t) c.in-None.ensures.steps.0 ∙ append-nil c.loop-link.yielded in
    λ d. subst (λ (ls : List Link). IsCostWordOf c.args.router ls c.args.word.now d → ⊥) (sym all) (c.loop-link.invariant.none d)
