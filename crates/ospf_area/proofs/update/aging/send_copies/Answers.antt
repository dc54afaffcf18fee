use Rattle.std.proofs.Common.{List, take, sym, subst}
use Rattle.std.proofs.lemmas.List.{take_more}
use Rattle.ospf_base.specs.declared.ids.LsaKey.{LsaKey}
use Rattle.ospf_area.specs.Acting.{InTurn}
use Rattle.ospf_area.specs.Updates.Aging.{SendsCopy}
use Rattle.ospf_area.proofs.Updates.CopyLemmas.{copies_more}
use Rattle.ospf_area.proofs.update.aging.send_copies.Goals as goal

pub loop-key-preserved : goal.loop-key-preserved
loop-key-preserved c =
    subst (λ (keys : List LsaKey). InTurn SendsCopy keys c.args.area.now c.args.out.now c.send_copy.new.out c.send_copy.new.area) (sym (take_more c.args.keys.now c.loop-key.key-index _ c.loop-key-test.true))
    (copies_more (take c.loop-key.key-index c.args.keys.now) _ c.args.area.now c.loop-key.area c.send_copy.new.area c.args.out.now c.loop-key.out c.send_copy.new.out c.loop-key.invariant c.in_ok-send_copy.ensures)
