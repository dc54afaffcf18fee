-- ospf_area/proofs/flooding/flood_neighbours/Answers.antt
use Rattle.std.proofs.Common.{◌≡◌, ◌∙◌, ℕ, Bool, ap, set, sym, get_or, take, Option}
use Rattle.std.proofs.lemmas.List.Edits.{map_over_more}
use Rattle.std.proofs.lemmas.List.Folds.{list_any_more}
use Rattle.ospf_base.specs.declared.ids.LsaKey.{LsaKey}
use Rattle.ospf_flood.specs.Offers.{flooded, offer_to}
use Rattle.ospf_lsa.specs.Header.{header_of}
use Rattle.ospf_lsa.specs.declared.header.LsaHeader.{LsaHeader}
use Rattle.ospf_lsa.specs.Lsa.{key_of}
use Rattle.ospf_neighbour.specs.Neighbour.{NeighbourValue}
use Rattle.ospf_area.specs.Flooding.{came_from}
use Rattle.ospf_area.specs.declared.flooding.PacketSource.{PacketSource}
use Rattle.ospf_neighbour.proofs.NeighbourLemmas.{AreNeighbours-same, routers-set}
use Rattle.ospf_area.proofs.NeighbourLemmas.{flooded-router}
use Rattle.ospf_area.proofs.PlaceLemmas.{map_read, or_set, or_left}
use Rattle.ospf_area.proofs.Words.{some_listed, flooded_neighbour}
use Rattle.ospf_flood.proofs.Words.{lists}
use Rattle.ospf_area.proofs.flooding.flood_neighbours.Goals as goal
use Rattle.ospf_area.proofs.flooding.flood_neighbours.Goals.{then-branch, else-branch}

-- a neighbour is flooded to by what the code has at hand
module _ (k key : LsaKey) (head h : LsaHeader) (by : Bool) (here : Option PacketSource) where
  as_flooded : (tick : ℕ) (n : NeighbourValue) → k ≡ key → head ≡ h → by ≡ came_from here n → flooded k head by tick n ≡ flooded_neighbour key h here tick n
  as_flooded tick n is_key is_head is_by =
      ap (λ (x : LsaKey). flooded x head by tick n) is_key ∙ ap (λ (x : LsaHeader). flooded key x by tick n) is_head ∙ ap (λ (x : Bool). flooded key h x tick n) is_by

  as_listed : (n : NeighbourValue) → k ≡ key → head ≡ h → by ≡ came_from here n → lists (offer_to k head by n) ≡ lists (offer_to key h (came_from here n) n)
  as_listed n is_key is_head is_by =
      ap (λ (x : LsaKey). lists (offer_to x head by n)) is_key ∙ ap (λ (x : LsaHeader). lists (offer_to key x by n)) is_head ∙ ap (λ (x : Bool). lists (offer_to key h x n)) is_by

pub returns-in_err-flood_to-clause-still : goal.returns-in_err-flood_to-clause-still
returns-in_err-flood_to-clause-still c =
    let same : c.flood_to.new.neighbour.router ≡ c.neighbour-item.result.router = ap (λ (n : NeighbourValue). n.router) (c.in_err-flood_to.ensures.err ∙ sym c.neighbour-item.is) in
    AreNeighbours-same _ _ (routers-set c.loop-neighbour.neighbours c.loop-neighbour.neighbour-index c.neighbour-item.result c.flood_to.new.neighbour c.neighbour-item.is same ∙ c.loop-neighbour.invariant.still) c.requires.few

pub loop-neighbour-preserved : goal.loop-neighbour-preserved
loop-neighbour-preserved c =
    let key = key_of c.args.lsa.now in
    let h = header_of c.args.lsa.now in
    let f = flooded_neighbour key h c.args.here c.args.tick in
    let test = λ (n : NeighbourValue). lists (offer_to key h (came_from c.args.here n) n) in
    let xs = c.args.neighbours.now in
    let i = c.loop-neighbour.neighbour-index in
    let x = c.neighbour-item.result in
    let k = c.key-key.result in
    let head = c.header-header.result in
    let by = c.came_from-from_it.result in
    let old = get_or c.loop-neighbour.neighbours i x in
    let is_new : c.flood_to.new.neighbour ≡ f x =
    c.in_ok-flood_to.ensures.ok ∙ as_flooded k key head h by c.args.here c.args.tick old c.key-key.ensures c.header-header.ensures.value c.came_from-from_it.ensures ∙ ap f (sym c.neighbour-item.is) in
    let read : x ≡ get_or xs i x = map_read f xs c.loop-neighbour.neighbours i x c.loop-neighbour-test.true c.loop-neighbour.invariant.flooded c.neighbour-item.is in
    let goes : c.in_ok-flood_to.field-0 ≡ test (get_or xs i x) =
    c.in_ok-flood_to.ensures.listed ∙ as_listed k key head h by c.args.here old c.key-key.ensures c.header-header.ensures.value c.came_from-from_it.ensures ∙ ap test (sym c.neighbour-item.is ∙ read) in
    let more = list_any_more test xs i x c.loop-neighbour-test.true in
    record {
      flooded = ap (λ (v : NeighbourValue). set c.loop-neighbour.neighbours i v) is_new
          ∙ map_over_more f xs c.loop-neighbour.neighbours i x c.loop-neighbour-test.true c.loop-neighbour.invariant.flooded c.neighbour-item.is;
      listed = elim c.if-branch.branch [
        | then-branch w ↦ w.listed-is ∙ or_set (some_listed key h c.args.here (take i xs)) (test (get_or xs i x)) (sym goes ∙ w.if-branch.true) ∙ sym more
        | else-branch w ↦ w.listed-is ∙ c.loop-neighbour.invariant.listed ∙ or_left (some_listed key h c.args.here (take i xs)) (test (get_or xs i x)) (sym goes ∙ w.if-branch.false) ∙ sym more
      ];
      still = routers-set c.loop-neighbour.neighbours i x c.flood_to.new.neighbour c.neighbour-item.is (ap (λ (n : NeighbourValue). n.router) is_new ∙ flooded-router key h (came_from c.args.here x) c.args.tick x) ∙ c.loop-neighbour.invariant.still;
    }

pub returns-clause-still : goal.returns-clause-still
returns-clause-still c = AreNeighbours-same _ _ c.loop-neighbour.invariant.still c.requires.few
