-- One neighbour of a link has its turn.
use Rattle.std.proofs.Common.{◌≡◌, ◌≢◌, ◌∷◌, ◌||◌, ℕ, Bool, false, List, [], None, Some, length, set, sym, subst, ap, ◌∙◌, slice_get, arith, refl, append-nil}
use Rattle.ospf_base.specs.declared.ids.RouterId.{RouterId}
use Rattle.ospf_neighbour.specs.declared.iface.machine.Iface.{Iface}
use Rattle.ospf_lsa.specs.declared.header.LsaHeader.{LsaHeader}
use Rattle.ospf_lsdb.specs.Database.{Held}
use Rattle.ospf_neighbour.specs.Neighbour.{NeighbourValue}
use Rattle.ospf_neighbour.specs.Neighbours.{AreNeighboursRising, AreNeighbours, neighbour_of, place_for}
use Rattle.ospf_packet.specs.declared.body.Description.{Description}
use Rattle.ospf_packet.specs.declared.body.Hello.{Hello}
use Rattle.ospf_packet.specs.declared.entry.RequestEntry.{RequestEntry}
use Rattle.ospf_exchange.specs.declared.rule.Local.{Local}
use Rattle.ospf_adjacency.specs.Descriptions.{description_turn}
use Rattle.ospf_area.specs.Turns.{Turn, turn}
use Rattle.ospf_area.specs.Outboxes.{OutboxValue, posted_all, local_by}
use Rattle.ospf_adjacency.proofs.SameLemmas.{description_keeps_router}
use Rattle.ospf_adjacency.specs.Heard.{Neighbourhood, neighbourhood, turn_of, put_back, receive_hello, put}
use Rattle.ospf_adjacency.proofs.Words.{elects_by_change}
use Rattle.std.proofs.Common.{Option, inl, inr}
use Rattle.std.proofs.lemmas.Option.{slice_get_past, slice_get_read}
use Rattle.std.proofs.Common.{get_or}
use Rattle.std.proofs.Common.{nat_lt, is_some, suc, true}
use Rattle.std.proofs.lemmas.Bool.Decides.{leb_tells}
use Rattle.std.proofs.lemmas.Bool.Decides.{eqb_tells}
use Rattle.ospf_adjacency.proofs.StayLemmas.{put_rises}
use Rattle.ospf_adjacency.proofs.LinkSteps.NeighbourLemmas.{few_by}
use Rattle.ospf_adjacency.proofs.PutLemmas.{found, not_found, put_found}
use Rattle.ospf_area.specs.Outputs.{OutputsValue, SentValue}
use Rattle.ospf_area.specs.Sending.{and_sends}
use Rattle.ospf_area.specs.State.{LinkValue}
use Rattle.ospf_area.specs.declared.flooding.PacketSource.{PacketSource}
use Rattle.ospf_area.specs.declared.sending.RouterContext.{RouterContext}
use Rattle.ospf_exchange.specs.Laws.{KeepsRouter}
use Rattle.ospf_adjacency.specs.LinkSteps.Parts.{description_comes, description_on, hello_comes, left_beside, request_at, request_on, with_neighbourhood}
use Rattle.ospf_adjacency.specs.LinkSteps.Works.{WorksOn, up_out_on}
use Rattle.ospf_adjacency.proofs.LinkSteps.Words.{description_by, request_by, work_sent, work_sent_on, worked_by}
use Rattle.ospf_area.specs.Sending.{context_of}
use Rattle.ospf_area.specs.State.{AreaValue}

-- nothing is sent
pub none_sent : (out : OutputsValue) → out ≡ and_sends out []
none_sent out = ap (λ (ds : List SentValue). record out { sent = ds }) (sym (append-nil out.sent))

-- there is no such place
pub is_past : {X Y : Type 0} (xs ys : List X) (l : ℕ) (r : Option Y) → ys ≡ xs → r ≡ None → is_some r ≡ nat_lt l (length xs) → slice_get ys l ≡ None
is_past xs ys l r same none e =
    let f : false ≡ nat_lt l (length xs) = ap (λ (o : Option _). is_some o) (sym none) ∙ e in
    ap (λ zs. slice_get zs l) same ∙ elim (leb_tells (suc l) (length xs)) [
      | inl w ↦ absurd (let bad : false ≡ true = f ∙ w.0 in cc)
      | inr w ↦ slice_get_past xs l (omega (arith, w.1))
    ]

pub work_unsent : (links : List LinkValue) (l : ℕ) (part : LinkValue → Neighbourhood) (own : RouterContext) (out : OutputsValue) → slice_get links l ≡ None → out ≡ and_sends out (work_sent part own l links)
work_unsent links l part own out none = none_sent out ∙ ap (λ o. and_sends out (work_sent_on o part own l)) (sym none)

-- where there is no such link, a part on it does nothing
pub works_nowhere : (part : LinkValue → Neighbourhood) (l : ℕ) (s after : AreaValue) (out : OutputsValue) → slice_get s.links l ≡ None → after ≡ s → WorksOn part l s out out after
works_nowhere part l s after out none same = record {
  state = same ∙ ap (λ o. worked_by o part l s) (sym none);
  outputs = work_unsent s.links l part (context_of s) out none;
}

pub up_unsent : (links : List LinkValue) (l : ℕ) (own : RouterContext) (out : OutputsValue) → slice_get links l ≡ None → out ≡ and_sends out (up_out_on (slice_get links l) own l)
up_unsent links l own out none = none_sent out ∙ ap (λ o. and_sends out (up_out_on o own l)) (sym none)

-- where there is one, it does what is done to its link, and sends what is left beside it
pub works_there : (part : LinkValue → Neighbourhood) (now before after : AreaValue) (out out' : OutputsValue) (l : ℕ) (link link' : LinkValue) (next : ℕ) (x : Neighbourhood) (own : RouterContext) (i : Iface) (p : OutboxValue)
    → before ≡ now → slice_get now.links l ≡ Some link → own ≡ context_of now → i ≡ link.iface → x ≡ part link
    → link' ≡ with_neighbourhood x link → p ≡ left_beside x → next ≡ p.next
    → after ≡ record before { links = set before.links l link'; next_dd = next } → out' ≡ and_sends out (posted_all own l i p.sent)
    → WorksOn part l now out out' after
works_there part now before after out out' l link link' next x own i p same there own_is i_is x_is link_is p_is next_is after_is out_is = record {
  state =
      after_is ∙ ap (λ (s : AreaValue). record s { links = set s.links l link'; next_dd = next }) same
      ∙ ap (λ (a : LinkValue). record now { links = set now.links l a; next_dd = next }) link_is
      ∙ ap (λ (n : ℕ). record now { links = set now.links l (with_neighbourhood x link); next_dd = n }) (next_is ∙ ap (λ (q : OutboxValue). q.next) p_is)
      ∙ ap (λ (y : Neighbourhood). record now { links = set now.links l (with_neighbourhood y link); next_dd = y.next }) x_is
      ∙ ap (λ (o : Option LinkValue). worked_by o part l now) (sym there);
  outputs =
      out_is ∙ ap (λ (w : RouterContext). and_sends out (posted_all w l i p.sent)) own_is
      ∙ ap (λ (j : Iface). and_sends out (posted_all (context_of now) l j p.sent)) i_is
      ∙ ap (λ (q : OutboxValue). and_sends out (posted_all (context_of now) l link.iface q.sent)) p_is
      ∙ ap (λ (y : Neighbourhood). and_sends out (posted_all (context_of now) l link.iface y.sent)) x_is
      ∙ ap (λ (o : Option LinkValue). and_sends out (work_sent_on o part (context_of now) l)) (sym there);
}

-- the neighbour of q, once it has changed, is put where it stood
pub is_put : (ns : List NeighbourValue) (k : ℕ) (q : RouterId) (e m : NeighbourValue) → k ≡ place_for ns q.0 → slice_get ns k ≡ Some e → e.router ≡ q → m.router ≡ e.router → set ns k m ≡ put m ns
is_put ns k q e m at there e_is same =
    let place : k ≡ place_for ns m.router.0 = at ∙ ap (λ (r : RouterId). place_for ns r.0) (sym (same ∙ e_is)) in
    let there_m : slice_get ns (place_for ns m.router.0) ≡ Some e = ap (slice_get ns) (sym place) ∙ there in
    ap (λ (j : ℕ). set ns j m) place ∙ sym (put_found ns m e there_m (ap (λ (r : RouterId). r.0) (sym same)))

pub is_found : (ns : List NeighbourValue) (k : ℕ) (q : RouterId) (e : NeighbourValue) → k ≡ place_for ns q.0 → slice_get ns k ≡ Some e → e.router ≡ q → neighbour_of ns q ≡ Some e
is_found ns k q e at there e_is = found ns q e (ap (slice_get ns) (sym at) ∙ there) (ap (λ (r : RouterId). r.0) e_is)

pub is_none : (ns : List NeighbourValue) (k : ℕ) (q : RouterId) → AreNeighboursRising ns → k ≡ place_for ns q.0 → ((o : NeighbourValue) → slice_get ns k ≡ Some o → o.router ≢ q) → neighbour_of ns q ≡ None
is_none ns k q rises at other =
    not_found ns q rises (λ o there same. other o (ap (slice_get ns) at ∙ there) (λ j. record { 0 = same j }))

pub described_found : (i : Iface) (local : Local) (q : RouterId) (d : Description) (hs : List LsaHeader) (db : List Held) (ns : List NeighbourValue) (p p' : OutboxValue) (k : ℕ) (e m : NeighbourValue) (elects : Bool)
    → k ≡ place_for ns q.0 → slice_get ns k ≡ Some e → e.router ≡ q → m.router ≡ e.router
    → turn m p' ≡ description_turn i local q d hs db (turn e p) → elects ≡ elects_by_change i.state e m
    → neighbourhood (set ns k m) elects p' ≡ description_on i local q d hs db (neighbourhood ns false p)
described_found i local q d hs db ns p p' k e m elects at there e_is same is due =
    let x = neighbourhood ns false p in
    ap (λ (l : List NeighbourValue). neighbourhood l elects p') (is_put ns k q e m at there e_is same)
    ∙ ap (λ (b : Bool). put_back b (turn m p') x) due
    ∙ ap (λ (u : Turn). put_back (elects_by_change i.state e u.neighbour) u x) is
    ∙ ap (λ (o : Option NeighbourValue). description_by o i local q d hs db x) (sym (is_found ns k q e at there e_is))

-- ---- neighbours that are put back

or_false : (b : Bool) → b ≡ b || false
or_false true = refl
or_false false = refl

-- where an election was due before it stays due
abbrev pub and_due : Bool → Neighbourhood → Neighbourhood
and_due b x = record x { elects = b || x.elects }

description_due : (i : Iface) (local : Local) (q : RouterId) (d : Description) (hs : List LsaHeader) (db : List Held) (ns : List NeighbourValue) (b : Bool) (p : OutboxValue) (o : Option NeighbourValue)
    → and_due b (description_by o i local q d hs db (neighbourhood ns false p)) ≡ description_by o i local q d hs db (neighbourhood ns b p)
description_due i local q d hs db ns b p None = ap (λ (c : Bool). neighbourhood ns c p) (sym (or_false b))
description_due i local q d hs db ns b p (Some n) = refl

request_due : (i : Iface) (local : Local) (q : RouterId) (delay : ℕ) (db : List Held) (es : List RequestEntry) (ns : List NeighbourValue) (b : Bool) (p : OutboxValue) (o : Option NeighbourValue)
    → and_due b (request_by o i local delay db es (neighbourhood ns false p)) ≡ request_by o i local delay db es (neighbourhood ns b p)
request_due i local q delay db es ns b p None = ap (λ (c : Bool). neighbourhood ns c p) (sym (or_false b))
request_due i local q delay db es ns b p (Some n) = refl

-- the link, and what is left beside it, once its neighbours are put back
pub record PutBack (x : Neighbourhood) (link after : LinkValue) (p' : OutboxValue) : Type 0 where
  pub after_is : after ≡ with_neighbourhood x link
  pub left_is : p' ≡ left_beside x

puts_back : (x : Neighbourhood) (link bare after : LinkValue) (ns : List NeighbourValue) (elects due : Bool) (p' : OutboxValue)
    → bare ≡ record link { neighbours = [] } → after ≡ record bare { neighbours = ns; elects = due } → due ≡ bare.elects || elects
    → neighbourhood ns elects p' ≡ x → PutBack (and_due link.elects x) link after p'
puts_back x link bare after ns elects due p' is_bare is_after is_due is = record {
  after_is =
      is_after ∙ ap (λ (l : LinkValue). record l { neighbours = ns; elects = due }) is_bare
      ∙ ap (λ (b : Bool). record link { neighbours = ns; elects = b }) (is_due ∙ ap (λ (l : LinkValue). l.elects || elects) is_bare)
      ∙ ap (λ (y : Neighbourhood). with_neighbourhood (and_due link.elects y) link) is;
  left_is = ap left_beside is;
}

pub hello_back : (own : RouterContext) (f : PacketSource) (h : Hello) (named : Bool) (link bare after : LinkValue) (ns : List NeighbourValue) (elects due : Bool) (p p' : OutboxValue)
    → bare ≡ record link { neighbours = [] } → after ≡ record bare { neighbours = ns; elects = due } → due ≡ bare.elects || elects
    → neighbourhood ns elects p' ≡ receive_hello link.iface (local_by own link.settings) f.router f.address h named (neighbourhood link.neighbours false p)
    → PutBack (hello_comes own f h named p link) link after p'
hello_back own f h named link bare after ns elects due p p' is_bare is_after is_due is = puts_back _ link bare after ns elects due p' is_bare is_after is_due is

pub description_back : (own : RouterContext) (f : PacketSource) (d : Description) (hs : List LsaHeader) (db : List Held) (link bare after : LinkValue) (ns : List NeighbourValue) (elects due : Bool) (p p' : OutboxValue)
    → bare ≡ record link { neighbours = [] } → after ≡ record bare { neighbours = ns; elects = due } → due ≡ bare.elects || elects
    → neighbourhood ns elects p' ≡ description_on link.iface (local_by own link.settings) f.router d hs db (neighbourhood link.neighbours false p)
    → PutBack (description_comes own f d hs db p link) link after p'
description_back own f d hs db link bare after ns elects due p p' is_bare is_after is_due is =
    subst (λ (x : Neighbourhood). PutBack x link after p')
    (description_due link.iface (local_by own link.settings) f.router d hs db link.neighbours link.elects p (neighbour_of link.neighbours f.router))
    (puts_back _ link bare after ns elects due p' is_bare is_after is_due is)

pub request_back : (own : RouterContext) (f : PacketSource) (db : List Held) (es : List RequestEntry) (link bare after : LinkValue) (ns : List NeighbourValue) (due : Bool) (p p' : OutboxValue)
    → bare ≡ record link { neighbours = [] } → after ≡ record bare { neighbours = ns; elects = due } → due ≡ bare.elects || false
    → neighbourhood ns false p' ≡ request_on link.iface (local_by own link.settings) f.router link.settings.transmit_delay db es (neighbourhood link.neighbours false p)
    → PutBack (request_at own f db es p link) link after p'
request_back own f db es link bare after ns due p p' is_bare is_after is_due is =
    subst (λ (x : Neighbourhood). PutBack x link after p')
    (request_due link.iface (local_by own link.settings) f.router link.settings.transmit_delay db es link.neighbours link.elects p (neighbour_of link.neighbours f.router))
    (puts_back _ link bare after ns false due p' is_bare is_after is_due is)

same_is : (n m : NeighbourValue) → KeepsRouter n m → n.router ≡ m.router
same_is n m e = sym e.router

-- a Database Description makes no other neighbour of one
pub described_router : (i : Iface) (local : Local) (q : RouterId) (d : Description) (hs : List LsaHeader) (db : List Held) (t : Turn) (m : NeighbourValue) → m ≡ (description_turn i local q d hs db t).neighbour → m.router ≡ t.neighbour.router
described_router i local q d hs db t m is = ap (λ (v : NeighbourValue). v.router) is ∙ sym (same_is _ _ (description_keeps_router i local q d hs db t))

described_stays_by : (i : Iface) (local : Local) (q : RouterId) (d : Description) (hs : List LsaHeader) (db : List Held) (x : Neighbourhood) → AreNeighbours x.neighbours → (o : Option NeighbourValue) → neighbour_of x.neighbours q ≡ o
    → ((n : NeighbourValue) → o ≡ Some n → n.router ≡ q) → AreNeighbours (description_by o i local q d hs db x).neighbours
described_stays_by i local q d hs db x are None is named = are
described_stays_by i local q d hs db x are (Some n) is named =
    let m = (description_turn i local q d hs db (turn_of n x)).neighbour in
    let m_is : m.router ≡ q = sym (same_is _ _ (description_keeps_router i local q d hs db (turn_of n x))) ∙ named n refl in
    record {
      rising = put_rises m x.neighbours are.rising;
      few = few_by m x.neighbours are.rising are.few (λ none. absurd (let no : Some n ≡ None = sym is ∙ ap (neighbour_of x.neighbours) (sym m_is) ∙ none in cc)) (slice_get x.neighbours (place_for x.neighbours m.router.0)) refl;
    }

pub named_by : (ns : List NeighbourValue) (q : RouterId) (n : NeighbourValue) → neighbour_of ns q ≡ Some n → n.router ≡ q
named_by [] q n is = absurd cc
named_by (m ∷ ms) q n is = elim (eqb_tells m.router.0 q.0) [
  | inl w ↦ (let here : Some m ≡ Some n = rw w.0 at is in let one : m ≡ n = cc in (λ j. record { 0 = (ap (λ (x : NeighbourValue). x.router.0) (sym one) ∙ w.1) j }))
  | inr w ↦ named_by ms q n (rw w.0 at is)
]

-- a Database Description leaves the neighbours of a link in their order
pub described_stays : (i : Iface) (local : Local) (q : RouterId) (d : Description) (hs : List LsaHeader) (db : List Held) (x : Neighbourhood) → AreNeighbours x.neighbours → AreNeighbours (description_on i local q d hs db x).neighbours
described_stays i local q d hs db x are = described_stays_by i local q d hs db x are (neighbour_of x.neighbours q) refl (λ n is. named_by x.neighbours q n is)

-- what stands at a place
pub is_there : {X : Type 0} (xs ys : List X) (l : ℕ) (x : X) → ys ≡ xs → true ≡ nat_lt l (length xs) → x ≡ get_or xs l x → slice_get ys l ≡ Some x
is_there xs ys l x same e is = ap (λ zs. slice_get zs l) same ∙ elim (leb_tells (suc l) (length xs)) [
  | inl w ↦ slice_get_read xs (length xs) l x refl (omega (arith, w.1)) is
  | inr w ↦ absurd (let bad : true ≡ false = e ∙ w.0 in cc)
]
