-- What is read of each neighbour after changes of all links.
use Rattle.ospf_area.proofs.Words.{neighbours_in, changed_link, changed_on, delayed_on, flooded_link, released_link, changed_if, flooded_neighbour}
use Rattle.std.proofs.Common.{◌≡◌, ◌==◌, ◌+◌, ◌++◌, ℕ, zero, suc, Bool, true, false, if◌then◌else◌, Option, None, Some, List, [], ◌∷◌, map, refl, ap, ◌∙◌, arith}
use Rattle.std.specs.List.{find, slice_get}
use Rattle.std.specs.Option.{option_map}
use Rattle.std.proofs.lemmas.Option.{slice_get-map}
use Rattle.ospf_base.specs.declared.ids.LsaKey.{LsaKey}
use Rattle.ospf_base.specs.declared.ids.RouterId.{RouterId}
use Rattle.ospf_lsa.specs.declared.header.LsaHeader.{LsaHeader}
use Rattle.ospf_neighbour.specs.Lists.{key_unlisted}
use Rattle.ospf_neighbour.specs.Neighbour.{NeighbourValue}
use Rattle.ospf_neighbour.specs.Neighbours.{neighbour_of}
use Rattle.ospf_area.specs.Asking.{turned_to_next, turned_link}
use Rattle.ospf_area.specs.Changes.{changed_at, delayed_at}
use Rattle.ospf_area.specs.Flooding.{flooded_links, on_link, released}
use Rattle.ospf_area.specs.Laws.{changed_there, turned_there}
use Rattle.ospf_area.specs.Places.{map_from}
use Rattle.ospf_area.specs.State.{LinkValue, neighbour_at}
use Rattle.ospf_area.specs.declared.changes.AdjacencyChange.{AdjacencyChange}
use Rattle.ospf_area.specs.declared.flooding.PacketSource.{PacketSource}
use Rattle.ospf_area.specs.declared.sending.RouterContext.{RouterContext}
use Rattle.ospf_area.proofs.NeighbourLemmas.{changed_if-router, flooded-router, turned-router}

from_next : {X Y : Type 0} (f : ℕ → X → Y) (k : ℕ) (xs : List X) (l : ℕ) → slice_get (map_from f k xs) l ≡ option_map (f (k + l)) (slice_get xs l)
from_next f k [] l = refl
from_next f k (x ∷ xs) zero = ap (λ (n : ℕ). Some (f n x)) (omega arith)
from_next f k (x ∷ xs) (suc l) = from_next f (suc k) xs l ∙ ap (λ (n : ℕ). option_map (f n) (slice_get xs l)) (omega arith)

-- what stands at a place after a change that knows the place
pub slice_get-map_from : {X Y : Type 0} (f : ℕ → X → Y) (xs : List X) (l : ℕ) → slice_get (map_from f 0 xs) l ≡ option_map (f l) (slice_get xs l)
slice_get-map_from f xs l = from_next f 0 xs l ∙ ap (λ (n : ℕ). option_map (f n) (slice_get xs l)) (omega arith)

-- what is found after a change that the test does not see
pub find-map : {X : Type 0} (p : X → Bool) (g : X → X) → ((x : X) → p (g x) ≡ p x) → (xs : List X) → find p (map g xs) ≡ option_map g (find p xs)
find-map p g same [] = refl
find-map p g same (x ∷ xs) = ap (λ (b : Bool). if b then Some (g x) else find p (map g xs)) (same x) ∙ by_test (p x) (find-map p g same xs)
  where
    by_test : (b : Bool) → find p (map g xs) ≡ option_map g (find p xs) → (if b then Some (g x) else find p (map g xs)) ≡ option_map g (if b then Some x else find p xs)
    by_test true e = refl
    by_test false e = e

pub neighbour_of-map : (g : NeighbourValue → NeighbourValue) → ((n : NeighbourValue) → (g n).router ≡ n.router) → (ns : List NeighbourValue) (q : RouterId) → neighbour_of (map g ns) q ≡ option_map g (neighbour_of ns q)
neighbour_of-map g keeps ns q = find-map (λ (n : NeighbourValue). n.router.0 == q.0) g (λ n. ap (λ (r : RouterId). r.0 == q.0) (keeps n)) ns

neighbours_in-map : (g : NeighbourValue → NeighbourValue) (o : Option LinkValue) → neighbours_in (option_map (λ (link : LinkValue). record link { neighbours = map g link.neighbours }) o) ≡ map g (neighbours_in o)
neighbours_in-map g None = refl
neighbours_in-map g (Some link) = refl

-- ---- all neighbours change

pub released_there : (key : LsaKey) (links : List LinkValue) (l : ℕ) (q : RouterId) → neighbour_at (released key links) l q ≡ option_map (key_unlisted key) (neighbour_at links l q)
released_there key links l q =
    ap (λ (o : Option LinkValue). neighbour_of (neighbours_in o) q) (slice_get-map (released_link key) links l)
    ∙ ap (λ (ns : List NeighbourValue). neighbour_of ns q) (neighbours_in-map (key_unlisted key) (slice_get links l))
    ∙ neighbour_of-map (key_unlisted key) (λ n. refl) (neighbours_in (slice_get links l)) q

pub flooded_there : (key : LsaKey) (h : LsaHeader) (from : Option PacketSource) (tick : ℕ) (links : List LinkValue) (l : ℕ) (q : RouterId)
    → neighbour_at (flooded_links key h from tick links) l q ≡ option_map (flooded_neighbour key h (on_link from l) tick) (neighbour_at links l q)
flooded_there key h from tick links l q =
    let g = flooded_neighbour key h (on_link from l) tick in
    ap (λ (o : Option LinkValue). neighbour_of (neighbours_in o) q) (slice_get-map_from (flooded_link key h from tick) links l)
    ∙ ap (λ (ns : List NeighbourValue). neighbour_of ns q) (neighbours_in-map g (slice_get links l))
    ∙ neighbour_of-map g (λ n. flooded-router key h _ tick n) (neighbours_in (slice_get links l)) q

on_turned_link : (own : RouterContext) (o : Option LinkValue) (q : RouterId)
    → neighbour_of (neighbours_in (option_map (turned_link own) o)) q ≡ option_map (turned_there own o) (neighbour_of (neighbours_in o) q)
on_turned_link own None q = refl
on_turned_link own (Some link) q = neighbour_of-map (turned_to_next link.settings.mtu own.tick) (λ n. turned-router link.settings.mtu own.tick n) link.neighbours q

pub turns_there : (own : RouterContext) (links : List LinkValue) (l : ℕ) (q : RouterId)
    → neighbour_at (map (turned_link own) links) l q ≡ option_map (turned_there own (slice_get links l)) (neighbour_at links l q)
turns_there own links l q =
    ap (λ (o : Option LinkValue). neighbour_of (neighbours_in o) q) (slice_get-map (turned_link own) links l)
    ∙ on_turned_link own (slice_get links l) q

-- an acknowledgement that waits
on_delayed_link : (number : ℕ) (h : LsaHeader) (l : ℕ) (o : Option LinkValue) → neighbours_in (option_map (delayed_on number h l) o) ≡ neighbours_in o
on_delayed_link number h l None = refl
on_delayed_link number h l (Some link) = by_test (l == number)
  where
    by_test : (b : Bool) → (if b then record link { delayed = link.delayed ++ h ∷ [] } else link).neighbours ≡ link.neighbours
    by_test true = refl
    by_test false = refl

pub delays_there : (number : ℕ) (h : LsaHeader) (links : List LinkValue) (l : ℕ) (q : RouterId) → neighbour_at (delayed_at number h links) l q ≡ neighbour_at links l q
delays_there number h links l q =
    ap (λ (o : Option LinkValue). neighbour_of (neighbours_in o) q) (slice_get-map_from (delayed_on number h) links l)
    ∙ ap (λ (ns : List NeighbourValue). neighbour_of ns q) (on_delayed_link number h l (slice_get links l))

-- ---- one neighbour changes

same_option : {X : Type 0} (o : Option X) → o ≡ option_map (λ (x : X). x) o
same_option None = refl
same_option (Some x) = refl

same_link : (o : Option LinkValue) → neighbours_in (option_map (λ (link : LinkValue). link) o) ≡ neighbours_in o
same_link None = refl
same_link (Some link) = refl

on_that_link : (b : Bool) (r : RouterId) (change : AdjacencyChange) (tick : ℕ) (o : Option LinkValue) (q : RouterId)
    → neighbour_of (neighbours_in (option_map (λ (link : LinkValue). if b then changed_link r change tick link else link) o)) q
    ≡ option_map (λ (n : NeighbourValue). if b then changed_if r change tick n else n) (neighbour_of (neighbours_in o) q)
on_that_link true r change tick o q =
    ap (λ (ns : List NeighbourValue). neighbour_of ns q) (neighbours_in-map (changed_if r change tick) o)
    ∙ neighbour_of-map (changed_if r change tick) (λ n. changed_if-router r change tick n) (neighbours_in o) q
on_that_link false r change tick o q = ap (λ (ns : List NeighbourValue). neighbour_of ns q) (same_link o) ∙ same_option (neighbour_of (neighbours_in o) q)

pub changes : (f : PacketSource) (change : AdjacencyChange) (tick : ℕ) (links : List LinkValue) (l : ℕ) (q : RouterId)
    → neighbour_at (changed_at f change tick links) l q ≡ option_map (changed_there f change tick l) (neighbour_at links l q)
changes f change tick links l q =
    ap (λ (o : Option LinkValue). neighbour_of (neighbours_in o) q) (slice_get-map_from (changed_on f change tick) links l)
    ∙ on_that_link (l == f.link) f.router change tick (slice_get links l) q
