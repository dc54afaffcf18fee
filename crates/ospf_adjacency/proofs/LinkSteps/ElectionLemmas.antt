-- The elections that end a step.
use Rattle.std.proofs.Common.{◌≡◌, ◌∙◌, ℕ, zero, suc, Bool, true, false, List, [], ◌∷◌, Option, None, Some, set, slice_get, refl, sym, ap, subst, inl, inr, ◌⊎◌}
use Rattle.ospf_area.specs.Packets.{PendingPacket}
use Rattle.ospf_area.specs.Sending.{context_of}
use Rattle.ospf_area.specs.Outputs.{OutputsValue}
use Rattle.ospf_area.specs.Sending.{and_sends}
use Rattle.ospf_area.specs.State.{AreaValue, LinkValue}
use Rattle.ospf_area.specs.declared.sending.RouterContext.{RouterContext}
use Rattle.ospf_area.specs.Outboxes.{posted_all}
use Rattle.ospf_adjacency.specs.LinkSteps.Elections.{IsReady, AreReady, ElectsAt, ElectsFrom, ElectsIf}
use Rattle.ospf_adjacency.proofs.LinkSteps.Words.{ElectsThere}

-- the election of a link that is there
pub elects_some : (now before after : AreaValue) (out out' : OutputsValue) (l : ℕ) (link link' : LinkValue) (next' : ℕ) (own : RouterContext) (sent : List PendingPacket)
    → before ≡ now → slice_get now.links l ≡ Some link → own ≡ context_of now → ElectsIf link.elects own before.next_dd link link' next' sent
    → after ≡ record before { links = set before.links l link'; next_dd = next' } → out' ≡ and_sends out (posted_all own l link.iface sent) → ElectsAt l now out out' after
elects_some now before after out out' l link link' next' own sent same there is elects after_is out_is =
    let own_elects : ElectsIf link.elects (context_of now) now.next_dd link link' next' sent = subst (λ (w : RouterContext). ElectsIf link.elects w now.next_dd link link' next' sent) is (subst (λ (s : AreaValue). ElectsIf link.elects own s.next_dd link link' next' sent) same elects) in
    let after_now : after ≡ record now { links = set now.links l link'; next_dd = next' } = after_is ∙ ap (λ (s : AreaValue). record s { links = set s.links l link'; next_dd = next' }) same in
    let out_now : out' ≡ and_sends out (posted_all (context_of now) l link.iface sent) = out_is ∙ ap (λ (w : RouterContext). and_sends out (posted_all w l link.iface sent)) is in
    subst (λ (o : Option LinkValue). ElectsThere o l now out after out') (sym there) (link', next', sent, own_elects, after_now, out_now)

-- of one that is not
pub elects_none : (now after : AreaValue) (out : OutputsValue) (l : ℕ) → after ≡ now → slice_get now.links l ≡ None → ElectsAt l now out out after
elects_none now after out l same none = subst (λ (o : Option LinkValue). ElectsThere o l now out after out) (sym none) (same, refl)

-- ---- what elections leave as it was

record Keeps (before after : AreaValue) : Type 0 where
  database : after.database ≡ before.database
  numbering : after.numbering ≡ before.numbering
  router : after.router ≡ before.router

-- ---- a link that had its election is ready

if_ready : (b : Bool) (own : RouterContext) (next : ℕ) (link link' : LinkValue) (next' : ℕ) (sent : List PendingPacket) → ElectsIf b own next link link' next' sent → IsReady link → IsReady link'
if_ready false own next link link' next' sent e ready = subst IsReady (sym e.0) ready
if_ready true own next link link' next' sent e ready =
    let off : link'.elects ≡ false = ap (λ (x : LinkValue). x.elects) e.1 in
    record { electing = λ on. absurd (let bad : false ≡ true = sym off ∙ on in cc); others = λ on. absurd (let bad : false ≡ true = sym off ∙ on in cc) }

-- what stands in a list once one was put into it
got : (xs : List LinkValue) (l k : ℕ) (y x : LinkValue) → slice_get (set xs l y) k ≡ Some x → ((x ≡ y) ⊎ (slice_get xs k ≡ Some x))
got [] l k y x e = inr e
got (z ∷ zs) zero zero y x e = inl (let one : Some y ≡ Some x = e in cc)
got (z ∷ zs) zero (suc k) y x e = inr e
got (z ∷ zs) (suc l) zero y x e = inr e
got (z ∷ zs) (suc l) (suc k) y x e = got zs l k y x e

there_ready : (o : Option LinkValue) (l : ℕ) (before after : AreaValue) (out out' : OutputsValue) → slice_get before.links l ≡ o → ElectsThere o l before out after out' → AreReady before.links → AreReady after.links
there_ready None l before after out out' at e ready = subst (λ (s : AreaValue). AreReady s.links) (sym e.0) ready
there_ready (Some link) l before after out out' at (link', next', sent, elects, is, sends) ready = λ k x e.
    elim (got before.links l k link' x (ap (λ (s : AreaValue). slice_get s.links k) (sym is) ∙ e)) [
      | inl same ↦ subst IsReady (sym same) (if_ready link.elects (context_of before) before.next_dd link link' next' sent elects (ready l link at))
      | inr old ↦ ready k x old
    ]

pub at_ready : (l : ℕ) (before after : AreaValue) (out out' : OutputsValue) → ElectsAt l before out out' after → AreReady before.links → AreReady after.links
at_ready l before after out out' e ready = there_ready (slice_get before.links l) l before after out out' refl e ready
