use Rattle.std.proofs.Common.{List, take, sym, subst}
use Rattle.std.proofs.lemmas.List.{take_more}
use Rattle.ospf_base.specs.declared.ids.LsaKey.{LsaKey}
use Rattle.ospf_area.proofs.Updates.Words.{RemovesAll}
use Rattle.ospf_area.proofs.Updates.RemovalLemmas.{RemovesAll-more}
use Rattle.ospf_area.proofs.update.removal.remove_all.Goals as goal

pub loop-key-preserved : goal.loop-key-preserved
loop-key-preserved c =
    subst (λ (keys : List LsaKey). RemovesAll keys c.args.area.now c.args.out.now c.remove_one.new.out c.remove_one.new.area) (sym (take_more c.args.keys.now c.loop-key.key-index _ c.loop-key-test.true))
    (RemovesAll-more (take c.loop-key.key-index c.args.keys.now) _ c.args.area.now c.loop-key.area c.remove_one.new.area c.args.out.now c.loop-key.out c.remove_one.new.out c.loop-key.invariant c.in_ok-remove_one.ensures)
