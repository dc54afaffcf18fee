use Rattle.std.proofs.Common.{◌∙◌, List, ap, position, sym}
use Rattle.ospf_base.specs.Keys.{same_key}
use Rattle.ospf_base.specs.declared.ids.LsaKey.{LsaKey}
use Rattle.ospf_world.proofs.LaterRuns.{put_behind, put_in_place}
use Rattle.ospf_world.proofs.logs.begin_one.Goals as goal
use Rattle.ospf_world.specs.Logs.{run_of}
use Rattle.ospf_world.specs.declared.logs.Run.{Run}

pub returns-in-Some : goal.returns-in-Some
returns-in-Some c = λ first other.
    let is = put_in_place c.args.later.now.items c.in-Some.at c.args.key c.args.run first other
    (ap (λ (es : List (LsaKey × Run)). position (λ e. same_key e.0 c.args.key) es) (sym c.deref.ensures.value) ∙ sym c.later_place.ensures ∙ c.in-Some.is) in
    search

pub returns-in_ok-push-in-None : goal.returns-in_ok-push-in-None
returns-in_ok-push-in-None c = λ first other.
    let is = ap (λ (es : List (LsaKey × Run)). run_of first es other) c.in_ok-push-in-None.ensures.items
    ∙ put_behind c.args.later.now.items c.args.key c.args.run first other
    (ap (λ (es : List (LsaKey × Run)). position (λ e. same_key e.0 c.args.key) es) (sym c.deref.ensures.value) ∙ sym c.later_place.ensures ∙ c.in-None.is) in
    search
