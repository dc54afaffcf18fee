-- ospf_update/proofs/meeting/store/Answers.antt
use Rattle.std.proofs.Common.{◌≡◌, ◌∙◌, ◌++◌, ℕ, List, length, take, ap, arith, subst, sym}
use Rattle.std.proofs.Math.Seq.{take-append_seam}
use Rattle.ospf_area.specs.Flooding.{goes_anywhere}
use Rattle.ospf_area.specs.State.{AreaValue, LinkValue}
use Rattle.ospf_area.specs.contracts.state as state
use Rattle.ospf_lsa.specs.Header.{header_of}
use Rattle.ospf_lsa.specs.Lsa.{key_of}
use Rattle.ospf_area.specs.Updates.Meets.{InstallsIn}
use Rattle.ospf_area.proofs.Updates.StoreLemmas.{Stores-steps, floods}
use Rattle.ospf_area.proofs.update.meeting.store.Goals as goal

-- a slice of the same length is what a list of that length becomes
written : (n : ℕ) (new rest : List LinkValue) → length new ≡ n → take n (new ++ rest) ≡ new
written n new rest long = ap (λ (k : ℕ). take k (new ++ rest)) (sym long) ∙ take-append_seam new rest

pub returns-clause-after : goal.returns-clause-after
returns-clause-after c =
    let key = key_of c.view-3.result in
    let h = header_of c.view-3.result in
    let view : AreaValue = state.Area.the_view c.area.inside in
    let now : c.deref_mut.result.now ≡ view.links = c.deref_mut.ensures.value in
    let went : c.in_ok-flooded.flooded.anywhere ≡ goes_anywhere key h c.args.from c.release_in.new.area.links =
    c.in_ok-flooded.ensures.anywhere ∙ ap (λ (ls : List LinkValue). goes_anywhere key h c.args.from ls) (now ∙ ap (λ (x : AreaValue). x.links) c.area.view_is) in
    let long : length c.flood.new.links ≡ c.area.inside.links.len = omega (arith, c.flood.auto.links, c.deref_mut.ensures.len) in
    let installs : InstallsIn c.args.lsa c.is_some.result (record view { links = c.flood.new.links }) c.install_in.new.area =
    subst (λ (ls : List LinkValue). InstallsIn c.args.lsa c.is_some.result (record view { links = ls }) c.install_in.new.area) (written c.area.inside.links.len c.flood.new.links _ long) c.in_ok-install_in.ensures in
    Stores-steps c.args.lsa c.args.from c.args.area.now c.release_in.new.area (record view { links = c.flood.new.links }) c.install_in.new.area c.mark_in.new.area c.count_number.new.area
    c.view.result c.view-2.result c.view-3.result c.key-key.result c.header-header.result c.is_some.result c.in_ok-flooded.flooded.anywhere
    c.view.ensures.same c.view-2.ensures.same c.view-3.ensures.same c.key-key.ensures c.header-header.ensures.value c.is_some.ensures went
    c.release_in.ensures
    (floods c.view-3.result c.args.from c.key-key.result c.args.area.now c.release_in.new.area view c.context_of-own.result c.deref_mut.result.now c.flood.new.links c.context_of-own.ensures c.release_in.ensures c.area.view_is now c.in_ok-flooded.ensures.after)
    installs c.in_ok-mark_in.ensures c.in_ok-count_number.ensures
