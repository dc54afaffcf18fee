-- Elections of one link after the other, in a state that changes by each, are one quiet part.
use Rattle.std.proofs.Common.{◌≡◌, ◌⊎◌, inl, inr, ◌++◌, ◌≤◌, ℕ, zero, suc, Bool, true, false, List, [], ◌∷◌, length, Option, None, Some, set, slice_get, refl, sym, ap, subst, if◌then◌else◌, ◌∙◌, arith, append-nil, append_assoc}
use Rattle.std.specs.List.{Contains}
use Rattle.std.proofs.lemmas.Option.{none-some}
use Rattle.ospf_base.specs.declared.ids.RouterId.{RouterId}
use Rattle.ospf_neighbour.specs.Interface.Machine.{is_changed}
use Rattle.ospf_neighbour.specs.declared.iface.machine.Iface.{Iface}
use Rattle.ospf_neighbour.specs.Neighbour.{NeighbourValue}
use Rattle.ospf_neighbour.specs.Neighbours.{neighbour_of}
use Rattle.ospf_adjacency.specs.Elections.{adjusted, first_dds}
use Rattle.ospf_area.specs.Packets.{PendingPacket}
use Rattle.ospf_adjacency.specs.HelloLaws as hellos
use Rattle.ospf_adjacency.proofs.GoLemmas.{adj_ok_goes}
use Rattle.ospf_area.specs.Outputs.{AreReadAsSent, OutputsValue, SentValue, sends}
use Rattle.ospf_area.specs.Sending.{and_sends, context_of}
use Rattle.ospf_area.specs.State.{AreaValue, LinkValue}
use Rattle.ospf_router.specs.AreaStep.Links.{AllEach, AreKnown, ChangesLinks, Each, LinkQuiet}
use Rattle.ospf_router.specs.AreaStep.Neighbours.{Quiet}
use Rattle.ospf_router.specs.AreaStep.Puts.{PutsOut}
use Rattle.ospf_router.proofs.AreaStep.LinkParts.{each_same, part_quiet, quiet_same}
use Rattle.ospf_router.proofs.AreaStep.StateFacts.{Contains-nil}
use Rattle.ospf_router.proofs.AreaStep.PutParts.{puts_sent}
use Rattle.ospf_adjacency.specs.LinkSteps.Elections.{ElectsFrom, ElectsIf}
use Rattle.ospf_adjacency.proofs.LinkSteps.Words.{ElectsThere}
use Rattle.ospf_area.specs.Outboxes.{posted_all}
use Rattle.ospf_router.proofs.AreaStep.Known.{AreBare, bare_known, first_bare, link_quiet, same_goes, both_known, none_known}
use Rattle.ospf_router.proofs.AreaStep.Works.{read_sent}

-- ---- one link

elected_goes : (b : Bool) (i : Iface) (tick next : ℕ) (ns : List NeighbourValue) (q : RouterId) → hellos.KeepsOrLosesLists (neighbour_of ns q) (neighbour_of (if b then adjusted i tick next ns else ns) q)
elected_goes true i tick next ns q = adj_ok_goes i tick next ns q
elected_goes false i tick next ns q = same_goes (neighbour_of ns q)

elected_bare : (b : Bool) (i : Iface) (mtu tick next : ℕ) (ns : List NeighbourValue) → AreBare (if b then first_dds i mtu tick next ns else [])
elected_bare true i mtu tick next ns = first_bare i mtu tick next ns
elected_bare false i mtu tick next ns = λ p c. absurd (Contains-nil p c)

-- what it does, and what goes out
record ElectsQuietly (s : AreaValue) (l : ℕ) (link link' : LinkValue) (sent : List PendingPacket) : Type 0 where
  quiet : LinkQuiet s link link'
  known : AreKnown s (posted_all (context_of s) l link.iface sent)

quietly : (s : AreaValue) (l n n' : ℕ) (b : Bool) (link link' : LinkValue) (sent : List PendingPacket) → ElectsIf b (context_of s) n link link' n' sent → ElectsQuietly s l link link' sent
quietly s l n n' false link link' sent (same, number, none) = record {
  quiet = subst (λ a. LinkQuiet s link a) (sym same) (quiet_same s link);
  known = subst (λ ps. AreKnown s (posted_all (context_of s) l link.iface ps)) (sym none) (none_known s);
}
quietly s l n n' true link link' sent e =
    let changed = is_changed link.iface e.0.result in
    record {
      quiet = link_quiet s link link'
          (λ q. subst (λ ns. hellos.KeepsOrLosesLists (neighbour_of link.neighbours q) (neighbour_of ns q)) (sym e.0.neighbours) (elected_goes changed link'.iface s.tick n link.neighbours q))
          (λ h c. subst (λ hs. Contains hs h) (ap (λ (x : LinkValue). x.delayed) e.1) c);
      known = bare_known s l link.iface sent (subst AreBare (sym e.0.sends) (elected_bare changed link'.iface link.settings.mtu s.tick n link.neighbours));
    }

-- ---- a place of a list after it was written

pub set_at : {X : Type 0} (xs : List X) (l : ℕ) (x y : X) → slice_get xs l ≡ Some y → slice_get (set xs l x) l ≡ Some x
set_at [] l x y at = absurd (none-some y at)
set_at (z ∷ zs) zero x y at = refl
set_at (z ∷ zs) (suc l) x y at = set_at zs l x y at

pub set_other : {X : Type 0} (xs : List X) (l k : ℕ) (x : X) → (k ≡ l → ⊥) → slice_get (set xs l x) k ≡ slice_get xs k
set_other [] l k x other = refl
set_other (z ∷ zs) zero zero x other = absurd (other refl)
set_other (z ∷ zs) zero (suc k) x other = refl
set_other (z ∷ zs) (suc l) zero x other = refl
set_other (z ∷ zs) (suc l) (suc k) x other = set_other zs l k x (λ e. other (ap suc e))

pub same_or_not : (k l : ℕ) → (k ≡ l) ⊎ (k ≡ l → ⊥)
same_or_not zero zero = inl refl
same_or_not zero (suc l) = inr (λ e. omega (arith, e))
same_or_not (suc k) zero = inr (λ e. omega (arith, e))
same_or_not (suc k) (suc l) = elim (same_or_not k l) [ inl e ↦ inl (ap suc e) | inr no_one ↦ inr (λ e. no_one (omega (arith, e))) ]

-- ---- one link after the other

-- the first links are done, and the others are as they were
record IsDone (s : AreaValue) (l : ℕ) (out : OutputsValue) (t : AreaValue) (out' : OutputsValue) : Type 0 where
  sent : List SentValue
  rest : ChangesLinks s t
  outputs : out' ≡ and_sends out sent
  known : AreKnown s sent
  each : AllEach (LinkQuiet s) s.links t.links
  ahead : (k : ℕ) → l ≤ k → slice_get t.links k ≡ slice_get s.links k

outputs_made : OutputsValue → List SentValue → OutputsValue
outputs_made out ds = record out { sent = ds }

sends_none : (out : OutputsValue) → out ≡ and_sends out []
unfolding outputs_made
sends_none out = ap (outputs_made out) (sym (append-nil out.sent))

sends_more : (out : OutputsValue) (a b : List SentValue) → and_sends (and_sends out a) b ≡ and_sends out (a ++ b)
unfolding outputs_made
sends_more out a b = ap (outputs_made out) (append_assoc out.sent a b)

own_same : (s t : AreaValue) → ChangesLinks s t → context_of t ≡ context_of s
own_same s t rest = ap context_of rest

one_more : (s mid t : AreaValue) (l : ℕ) (out mid_out out' : OutputsValue) → IsDone s l out mid mid_out → (o : Option LinkValue) → slice_get mid.links l ≡ o → ElectsThere o l mid mid_out t out' → IsDone s (suc l) out t out'
one_more s mid t l out mid_out out' d None at (same, none) =
    subst (λ t. IsDone s (suc l) out t out') (sym same) (subst (λ o. IsDone s (suc l) out mid o) (sym none) (record {
      sent = d.sent;
      rest = d.rest;
      outputs = d.outputs;
      known = d.known;
      each = d.each;
      ahead = λ k le. d.ahead k (omega (arith, le));
    }))
one_more s mid t l out mid_out out' d (Some link) at (link', next', sent, elects, state, outputs) =
    let here : slice_get s.links l ≡ Some link = sym (d.ahead l (omega arith)) ∙ at in
    let own : context_of mid ≡ context_of s = own_same s mid d.rest in
    let one = quietly s l mid.next_dd next' link.elects link link' sent (subst (λ w. ElectsIf link.elects w mid.next_dd link link' next' sent) own elects) in
    let ds = posted_all (context_of s) l link.iface sent in
    let links : t.links ≡ set mid.links l link' = ap (λ (a : AreaValue). a.links) state in
    record {
      sent = d.sent ++ ds;
      rest = state ∙ ap (λ (m : AreaValue). record m { links = set mid.links l link'; next_dd = next' }) d.rest ∙ ap (λ (x : AreaValue). record s { links = x.links; next_dd = x.next_dd; sent = x.sent }) (sym state);
      outputs = outputs ∙ (ap (λ w. and_sends mid_out (posted_all w l link.iface sent)) own ∙ (ap (λ o. and_sends o ds) d.outputs ∙ sends_more out d.sent ds));
      known = both_known s d.sent ds d.known one.known;
      each = λ k. elim (same_or_not k l) [
        | inl e ↦ subst (λ j. Each (LinkQuiet s) (slice_get s.links j) (slice_get t.links j)) (sym e)
            (subst (λ o. Each (LinkQuiet s) o (slice_get t.links l)) (sym here) (subst (λ o. Each (LinkQuiet s) (Some link) o) (sym (ap (λ ls. slice_get ls l) links ∙ set_at mid.links l link' link at)) one.quiet))
        | inr other ↦ subst (λ o. Each (LinkQuiet s) (slice_get s.links k) o) (sym (ap (λ ls. slice_get ls k) links ∙ set_other mid.links l k link' other)) (d.each k)
      ];
      ahead = λ k le. ap (λ ls. slice_get ls k) links ∙ (set_other mid.links l k link' (λ e. omega (arith, e, le)) ∙ d.ahead k (omega (arith, le)));
    }

done : (s t : AreaValue) (l : ℕ) (out out' : OutputsValue) → ElectsFrom l s out out' t → IsDone s l out t out'
done s t zero out out' (same, none) =
    subst (λ t. IsDone s zero out t out') (sym same) (subst (λ o. IsDone s zero out s o) (sym none) (record {
      sent = [];
      rest = refl;
      outputs = sends_none out;
      known = none_known s;
      each = λ k. each_same (LinkQuiet s) (quiet_same s) (slice_get s.links k);
      ahead = λ k le. refl;
    }))
done s t (suc l) out out' (mid, mid_out, first, there) = one_more s mid t l out mid_out out' (done s mid l out mid_out first) (slice_get mid.links l) refl there

-- all of them
pub elects_put : (s t : AreaValue) (out out' : OutputsValue) → AreReadAsSent out'.sent → ElectsFrom (length s.links) s out out' t → PutsOut (λ o. Quiet s o t) out out'
elects_put s t out out' read e =
    let d = done s t (length s.links) out out' e in
    puts_sent (λ o. Quiet s o t) out out' d.sent (part_quiet s t (sends d.sent) d.sent d.rest refl (read_sent out out' d.sent d.outputs read) d.each d.known) d.outputs

-- they leave the database as it was
pub elects_database : (s t : AreaValue) (out out' : OutputsValue) → ElectsFrom (length s.links) s out out' t → t.database ≡ s.database
elects_database s t out out' e = ap (λ (a : AreaValue). a.database) (done s t (length s.links) out out' e).rest
