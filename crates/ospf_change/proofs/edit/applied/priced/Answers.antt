use Rattle.std.proofs.Common.{rules, ◌≡◌, ◌+◌, ◌≤◌, ℕ, List, [], length, map, take, sym, ap, subst, ◌∙◌, inl, inr, arith}
use Rattle.std.specs.List.{AllZip, Contains}
use Rattle.std.proofs.lemmas.List.{take_all}
use Rattle.std.proofs.lemmas.List.Elements.{all_zip_more}
use Rattle.ospf_lsa.specs.Lsa.{key_of}
use Rattle.ospf_lsa.proofs.Words.{IsRising}
use Rattle.ospf_graph.proofs.ListLemmas.{more_members}
use Rattle.ospf_graph.specs.EdgeLists.Listed.{advertisement_of, advertisements_of}
use Rattle.ospf_whatif.specs.Failure.{IsLeftBy}
use Rattle.ospf_whatif.proofs.WithoutLemmas.{keys_before, keys_next}
use Rattle.ospf_change.specs.Edit.Change.{IsChangedLarge, changed_lsa, priced_links}
use Rattle.ospf_change.proofs.Edits.MadeLemmas.{changed_next, large_one, small_all}
use Rattle.ospf_change.proofs.edit.applied.priced.Goals as goal

pub append-requires : goal.append-requires
append-requires c =
    let items = c.lsas-lsa-items.result.now in
    let rises : IsRising items = subst (λ l. IsRising l) (sym c.lsas-lsa-items.ensures.lsas) c.lsas-lsa-items.ensures.listing.rising in
    record {
      last =
          keys_before items c.loop-lsa.lsa-index c.lsa-item.result c.loop-lsa-test.true c.lsa-item.is rises c.loop-lsa.new c.in_ok-priced.priced c.loop-lsa.invariant.keys
          (c.in_ok-priced.ensures.key ∙ ap key_of c.view.ensures.same);
      young = c.in_ok-priced.ensures.young;
    }

pub loop-lsa-init : goal.loop-lsa-init
loop-lsa-init c = record {
  told = ap (map advertisement_of) c.new-new.ensures;
  bytes = subst (λ (l : List (List ℕ)). AllZip (IsLeftBy (priced_links c.args.change.now)) [] l) (sym c.new-new.ensures) tt;
  small = λ lsa m. absurd (let low = m.1 in omega arith);
  keys = ap (map key_of) c.new-new.ensures;
}

pub loop-lsa-preserved : goal.loop-lsa-preserved
loop-lsa-preserved c =
    let items = c.lsas-lsa-items.result.now in
    let i = c.loop-lsa.lsa-index in
    let x = c.lsa-item.result in
    let keep = priced_links c.args.change.now in
    let told = changed_next keep items i x c.loop-lsa-test.true c.lsa-item.is c.loop-lsa.new c.in_ok-priced.priced c.loop-lsa.invariant.told
    (c.in_ok-priced.ensures.advertisement ∙ ap (λ l. changed_lsa keep (advertisement_of l)) c.view.ensures.same) in
    let keys = keys_next items i x c.loop-lsa-test.true c.lsa-item.is c.loop-lsa.new c.in_ok-priced.priced c.loop-lsa.invariant.keys
    (c.in_ok-priced.ensures.key ∙ ap key_of c.view.ensures.same) in
    let R = IsLeftBy keep in
    let one : R x c.in_ok-priced.priced = subst (λ (l : List ℕ). R l c.in_ok-priced.priced) c.view.ensures.same c.in_ok-priced.ensures.bytes in
    record {
      told = ap (map advertisement_of) c.in_ok-append.ensures.ok ∙ told;
      bytes =
          subst (AllZip R (take (i + 1) items)) (sym c.in_ok-append.ensures.ok)
          (all_zip_more R items c.loop-lsa.new i x c.in_ok-priced.priced c.loop-lsa-test.true c.lsa-item.is c.loop-lsa.invariant.bytes one);
      small = λ lsa m large. elim ((more_members items i x c.loop-lsa-test.true lsa).0 m) [
        | inl old ↦ c.loop-lsa.invariant.small lsa old large
        | inr here ↦ c.in_ok-priced.ensures.small (subst (λ (l : List ℕ). IsChangedLarge keep (advertisement_of l)) (sym here ∙ sym c.lsa-item.is ∙ sym c.view.ensures.same) large)
      ];
      keys = ap (map key_of) c.in_ok-append.ensures.ok ∙ keys;
    }

pub returns-clause-changed_area : goal.returns-clause-changed_area
unfolding advertisements_of
returns-clause-changed_area c =
    let items = c.lsas-lsa-items.result.now in
    let end : length items ≤ c.loop-lsa.lsa-index = omega (arith, c.loop-lsa-test.false) in
    let all : take c.loop-lsa.lsa-index items ≡ c.args.listing.now = take_all c.loop-lsa.lsa-index items end ∙ c.lsas-lsa-items.ensures.lsas in
    c.loop-lsa.invariant.told ∙ ap (λ l. map (changed_lsa (priced_links c.args.change.now)) (map advertisement_of l)) all

pub returns-clause-bytes : goal.returns-clause-bytes
returns-clause-bytes c =
    let items = c.lsas-lsa-items.result.now in
    let end : length items ≤ c.loop-lsa.lsa-index = omega (arith, c.loop-lsa-test.false) in
    let all : take c.loop-lsa.lsa-index items ≡ c.args.listing.now = take_all c.loop-lsa.lsa-index items end ∙ c.lsas-lsa-items.ensures.lsas in
    subst (λ (l : List (List ℕ)). AllZip (IsLeftBy (priced_links c.args.change.now)) l c.loop-lsa.new) all c.loop-lsa.invariant.bytes

pub returns-clause-small : goal.returns-clause-small
unfolding advertisements_of
returns-clause-small c =
    let items = c.lsas-lsa-items.result.now in
    let keep = priced_links c.args.change.now in
    let end : length items ≤ c.loop-lsa.lsa-index = omega (arith, c.loop-lsa-test.false) in
    let none : (lsa : List ℕ) → Contains items lsa → IsChangedLarge keep (advertisement_of lsa) → ⊥ =
    subst (λ (l : List (List ℕ)). (lsa : List ℕ) → Contains l lsa → IsChangedLarge keep (advertisement_of lsa) → ⊥) (take_all c.loop-lsa.lsa-index items end) c.loop-lsa.invariant.small in
    small_all keep items c.args.listing.now c.lsas-lsa-items.ensures.lsas none

pub returns-in_err-priced-clause-large : goal.returns-in_err-priced-clause-large
unfolding advertisements_of
returns-in_err-priced-clause-large c = λ is.
    let items = c.lsas-lsa-items.result.now in
    let keep = priced_links c.args.change.now in
    let here : Contains items c.lsa-item.result = (c.loop-lsa.lsa-index, c.loop-lsa-test.true, sym c.lsa-item.is) in
    large_one keep items c.args.listing.now c.lsa-item.result c.lsas-lsa-items.ensures.lsas here
    (subst (λ (l : List ℕ). IsChangedLarge keep (advertisement_of l)) c.view.ensures.same (c.in_err-priced.ensures.large (search rules)))
