use Rattle.std.proofs.Common.{rules, ◌≡◌, ◌∙◌, ◌++◌, ℕ, List, OnOk, length, take, ap, arith, subst, sym}
use Rattle.std.proofs.Math.Seq.{take-append_seam}
use Rattle.ospf_area.specs.Changes.{changed_at}
use Rattle.ospf_area.specs.Standing.{acknowledging}
use Rattle.ospf_area.specs.State.{AreaValue, LinkValue}
use Rattle.ospf_area.specs.contracts.state as state
use Rattle.ospf_area.specs.declared.changes.AdjacencyChange.TheVariants.{Acknowledges}
use Rattle.ospf_area.proofs.Updates.MeetLemmas.{duplicated_by}
use Rattle.ospf_area.proofs.update.meeting.on_same.Goals as goal

-- a slice of the same length is what a list of that length becomes
written : (n : ℕ) (new rest : List LinkValue) → length new ≡ n → take n (new ++ rest) ≡ new
written n new rest long = ap (λ (k : ℕ). take k (new ++ rest)) (sym long) ∙ take-append_seam new rest

pub returns : goal.returns
returns c =
    let view : AreaValue = state.Area.the_view c.area.inside in
    let i = c.instance-instance.result in
    let now : c.deref_mut.result.now ≡ view.links = c.deref_mut.ensures.value in
    let long : length c.change_at.new.links ≡ c.area.inside.links.len = omega (arith, c.change_at.auto.links, c.deref_mut.ensures.len) in
    let acknowledged : OnOk c.acknowledge_by.result (c.acknowledge_by.new.area ≡ acknowledging c.answer_at-answer.result c.args.from c.header.result (record view { links = c.change_at.new.links })) =
    subst (λ (ls : List LinkValue). OnOk c.acknowledge_by.result (c.acknowledge_by.new.area ≡ acknowledging c.answer_at-answer.result c.args.from c.header.result (record view { links = ls })))
    (written c.area.inside.links.len c.change_at.new.links _ long) c.acknowledge_by.ensures in
    let changed : record view { links = c.change_at.new.links } ≡ record c.args.area.now { links = changed_at c.args.from (Acknowledges i) c.args.area.now.tick c.args.area.now.links } =
    ap (λ (ls : List LinkValue). record view { links = ls }) (c.change_at.ensures ∙ ap (λ (ls : List LinkValue). changed_at c.args.from (Acknowledges i) view.tick ls) now)
    ∙ ap (λ (x : AreaValue). record x { links = changed_at c.args.from (Acknowledges i) x.tick x.links }) c.area.view_is in
    duplicated_by c.acknowledge_by.result c.args.from c.args.lsa.now c.args.area.now (record view { links = c.change_at.new.links }) c.acknowledge_by.new.area
    c.is_awaited-implied.result c.case_of_same.result c.answer_at-answer.result c.header.result i
    (search rules) (search rules) c.case_of_same.ensures (search rules) changed (search rules) acknowledged
