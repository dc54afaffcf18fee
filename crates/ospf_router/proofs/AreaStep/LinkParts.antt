-- What is done on links, and what it is to the area.
use Rattle.ospf_area.proofs.Words.{neighbours_in}
use Rattle.std.proofs.Common.{◌≡◌, inl, ℕ, zero, suc, List, [], ◌∷◌, map, Option, None, Some, set, slice_get, refl, sym, subst}
use Rattle.std.specs.List.{Contains}
use Rattle.std.proofs.lemmas.Option.{none-some, same_Some}
use Rattle.ospf_base.specs.declared.ids.LsaKey.{LsaKey}
use Rattle.ospf_base.specs.declared.ids.RouterId.{RouterId}
use Rattle.ospf_lsa.specs.declared.header.LsaHeader.{LsaHeader}
use Rattle.ospf_neighbour.specs.Neighbour.{NeighbourValue}
use Rattle.ospf_neighbour.specs.Neighbours.{neighbour_of}
use Rattle.ospf_area.specs.Outputs.{AreReadAsSent, OutputsValue, SentValue, sends}
use Rattle.ospf_area.specs.State.{AreaValue, LinkValue}
use Rattle.ospf_router.specs.AreaStep.Packets.{Received}
use Rattle.ospf_router.proofs.AreaStep.StateFacts.{delayed_in}
use Rattle.ospf_router.specs.AreaStep.Neighbours.{NeighbourGoes, NeighboursGo, Quiet, told_by}
use Rattle.ospf_router.proofs.AreaStep.MeetAccounts.{sends_known}
use Rattle.ospf_router.specs.AreaStep.Links.{AllEach, AllGo, AreKnown, ChangesLinks, Each, EntersNot, LinkGoes, LinkQuiet, OnOneLink}

-- ---- one neighbour

pub goes_same : (s : AreaValue) (told : List LsaHeader) (o : Option NeighbourValue) → NeighbourGoes s told o o
goes_same s told None = tt
goes_same s told (Some n) = record {
  requests = λ h c. inl c;
  retransmission = λ i w. inl w;
  summary = λ h c. inl c;
  last_dd = λ h c. inl c;
  stays = λ i w. inl w;
}

-- ---- one link

pub link_same : (s : AreaValue) (told : RouterId → List LsaHeader) (b : LinkValue) → LinkGoes s told b b
link_same s told b = record { goes = λ q. goes_same s (told q) (neighbour_of b.neighbours q); waiting = λ h c. c }

pub quiet_same : (s : AreaValue) (b : LinkValue) → LinkQuiet s b b
quiet_same s b = record { link = link_same s (λ q. []) b; enters = λ q up. up }

-- ---- links that may not be there

pub each_same : (P : LinkValue → LinkValue → Type 0) → ((b : LinkValue) → P b b) → (o : Option LinkValue) → Each P o o
each_same P same None = tt
each_same P same (Some b) = same b

each_more : (P Q : LinkValue → LinkValue → Type 0) → ((b a : LinkValue) → P b a → Q b a) → (o o' : Option LinkValue) → Each P o o' → Each Q o o'
each_more P Q more None None e = tt
each_more P Q more None (Some a) e = absurd e
each_more P Q more (Some b) None e = absurd e
each_more P Q more (Some b) (Some a) e = more b a e

-- one link is another
set_each_by : (P : ℕ → LinkValue → LinkValue → Type 0) → ((k : ℕ) (b : LinkValue) → P k b b) → (links : List LinkValue) (l : ℕ) (link link' : LinkValue) → slice_get links l ≡ Some link → P l link link' → (k : ℕ) → Each (P k) (slice_get links k) (slice_get (set links l link') k)
set_each_by P same [] l link link' at p k = absurd (none-some link at)
set_each_by P same (y ∷ ys) zero link link' at p zero = subst (λ b. P 0 b link') (sym (same_Some y link at)) p
set_each_by P same (y ∷ ys) zero link link' at p (suc k) = each_same (P (suc k)) (same (suc k)) (slice_get ys k)
set_each_by P same (y ∷ ys) (suc l) link link' at p zero = same 0 y
set_each_by P same (y ∷ ys) (suc l) link link' at p (suc k) = set_each_by (λ k. P (suc k)) (λ k. same (suc k)) ys l link link' at p k

pub set_each : (P : LinkValue → LinkValue → Type 0) → ((b : LinkValue) → P b b) → (links : List LinkValue) (l : ℕ) (link link' : LinkValue) → slice_get links l ≡ Some link → P link link' → AllEach P links (set links l link')
set_each P same links l link link' at p = set_each_by (λ k. P) (λ k. same) links l link link' at p

-- each link by a function
pub map_each : (P : LinkValue → LinkValue → Type 0) (f : LinkValue → LinkValue) (links : List LinkValue) → ((l : ℕ) (link : LinkValue) → slice_get links l ≡ Some link → P link (f link)) → AllEach P links (map f links)
map_each P f [] p l = tt
map_each P f (y ∷ ys) p zero = p zero y refl
map_each P f (y ∷ ys) p (suc l) = map_each P f ys (λ k link at. p (suc k) link at) l

-- ---- the area

abbrev with_links : AreaValue → List LinkValue → ℕ → List LsaKey → AreaValue
with_links s links next keys = record s { links = links; next_dd = next; sent = keys }

goes_at : (s : AreaValue) (told : RouterId → List LsaHeader) (o o' : Option LinkValue) (q : RouterId) → Each (LinkGoes s told) o o' → NeighbourGoes s (told q) (neighbour_of (neighbours_in o) q) (neighbour_of (neighbours_in o') q)
goes_at s told None None q e = tt
goes_at s told None (Some a) q e = absurd e
goes_at s told (Some b) None q e = absurd e
goes_at s told (Some b) (Some a) q e = e.goes q

enters_at : (s : AreaValue) (o o' : Option LinkValue) (q : RouterId) → Each (LinkQuiet s) o o' → EntersNot (neighbour_of (neighbours_in o) q) (neighbour_of (neighbours_in o') q)
enters_at s None None q e = λ up. up
enters_at s None (Some a) q e = absurd e
enters_at s (Some b) None q e = absurd e
enters_at s (Some b) (Some a) q e = e.enters q

waits_at : (s : AreaValue) (told : RouterId → List LsaHeader) (o o' : Option LinkValue) (h : LsaHeader) → Each (LinkGoes s told) o o' → Contains (delayed_in o') h → Contains (delayed_in o) h
waits_at s told None None h e c = c
waits_at s told None (Some a) h e c = absurd e
waits_at s told (Some b) None h e c = absurd e
waits_at s told (Some b) (Some a) h e c = e.waiting h c

links_go : (heard : Option Received) (s : AreaValue) (links : List LinkValue) (next : ℕ) (keys : List LsaKey) (ds : List SentValue) → AllGo s heard s.links links → AreReadAsSent ds → AreKnown s ds → NeighboursGo heard s (sends ds) (with_links s links next keys)
links_go heard s links next keys ds each read known =
    let sent = sends_known s ds read known in
    record {
      goes = λ l q. goes_at s (told_by heard l) (slice_get s.links l) (slice_get links l) q (each l);
      waiting = λ l h c. waits_at s (told_by heard l) (slice_get s.links l) (slice_get links l) h (each l) c;
      same_direct = refl;
      same_router = refl;
      database = λ key. refl;
      numbering = λ key. refl;
      bears = sent.bears;
      updates = sent.updates;
      named = sent.named;
      taken = refl;
      issued = refl;
      ended = refl;
    }

-- links that go, and datagrams that are known, are a part
pub part_goes : (heard : Option Received) (s after : AreaValue) (out : OutputsValue) (ds : List SentValue) → ChangesLinks s after → out ≡ sends ds → AreReadAsSent out.sent → AllGo s heard s.links after.links → AreKnown s ds → NeighboursGo heard s out after
part_goes heard s after out ds rest outputs read each known =
    subst (λ a. NeighboursGo heard s out a) (sym rest) (subst (λ o. NeighboursGo heard s o (with_links s after.links after.next_dd after.sent)) (sym outputs)
    (links_go heard s after.links after.next_dd after.sent ds each (subst (λ o. AreReadAsSent o.sent) outputs read) known))

pub part_quiet : (s after : AreaValue) (out : OutputsValue) (ds : List SentValue) → ChangesLinks s after → out ≡ sends ds → AreReadAsSent out.sent → AllEach (LinkQuiet s) s.links after.links → AreKnown s ds → Quiet s out after
part_quiet s after out ds rest outputs read each known = record {
  neighbours = part_goes None s after out ds rest outputs read (λ l. each_more (LinkQuiet s) (LinkGoes s (λ q. [])) (λ b a e. e.link) (slice_get s.links l) (slice_get after.links l) (each l)) known;
  none_enters = λ l q. enters_at s (slice_get s.links l) (slice_get after.links l) q (each l);
}

-- what is done on one link
pub one_quiet : (l : ℕ) (link link' : LinkValue) (ds : List SentValue) (s : AreaValue) (out : OutputsValue) (after : AreaValue) → OnOneLink l link link' ds s out after → LinkQuiet s link link' → AreKnown s ds → Quiet s out after
one_quiet l link link' ds s out after one quiet known =
    part_quiet s after out ds one.rest one.outputs one.read (subst (λ cs. AllEach (LinkQuiet s) s.links cs) (sym one.links) (set_each (LinkQuiet s) (quiet_same s) s.links l link link' one.at quiet)) known

pub one_goes : (heard : Option Received) (l : ℕ) (link link' : LinkValue) (ds : List SentValue) (s : AreaValue) (out : OutputsValue) (after : AreaValue) → OnOneLink l link link' ds s out after → LinkGoes s (told_by heard l) link link' → AreKnown s ds → NeighboursGo heard s out after
one_goes heard l link link' ds s out after one goes known =
    part_goes heard s after out ds one.rest one.outputs one.read (subst (λ cs. AllGo s heard s.links cs) (sym one.links) (set_each_by (λ k. LinkGoes s (told_by heard k)) (λ k. link_same s (told_by heard k)) s.links l link link' one.at goes)) known
