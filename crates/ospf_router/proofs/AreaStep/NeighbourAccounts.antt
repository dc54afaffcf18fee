-- Parts that touch neighbours alone.
use Rattle.std.proofs.Common.{◌≡◌, ◌⊎◌, ◌==◌, ◌&&◌, ℕ, true, false, List, Option, None, Some, refl, sym, ap, subst, inl, inr, ◌∙◌}
use Rattle.std.specs.List.{Contains}
use Rattle.std.proofs.lemmas.Bool.{cases_Bool, cond-true, cond-false, eqb-true, and_parts}
use Rattle.ospf_base.specs.declared.ids.Instance.{Instance}
use Rattle.ospf_base.specs.declared.ids.RouterId.{RouterId}
use Rattle.ospf_lsa.specs.Lsa.{key_of}
use Rattle.ospf_lsa.specs.declared.header.LsaHeader.{LsaHeader}
use Rattle.ospf_neighbour.specs.Laws.{instances}
use Rattle.ospf_neighbour.specs.Machine.{is_exchanging}
use Rattle.ospf_neighbour.specs.Neighbour.{NeighbourValue}
use Rattle.ospf_area.specs.Outputs.{OutputsValue}
use Rattle.ospf_area.specs.State.{AreaValue, neighbour, WaitsIn, state_in}
use Rattle.ospf_area.proofs.Words.{copy_in}
use Rattle.ospf_router.specs.AreaStep.Headers.{IsOfInstance, Lists}
use Rattle.ospf_router.specs.AreaStep.Packets.{Received}
use Rattle.ospf_router.specs.AreaStep.Words.{CanName, HoldsInstance, HasCopy}
use Rattle.ospf_router.specs.AreaStep.Accounts.{IsDescribed}
use Rattle.ospf_router.specs.AreaStep.Neighbours.{NeighbourGoes, NeighboursGo, told_by, IsOldOrHeld}
use Rattle.ospf_router.proofs.AreaStep.StateFacts.{Contains-nil, same_router, list_in}
use Rattle.ospf_router.proofs.AreaStep.QuietAccounts.{brings_none, kept_same, none_ended, Adjusts}

-- what is told in a DD packet is heard
told-hears : (heard : Option Received) (l : ℕ) (q : RouterId) (h : LsaHeader) (i : Instance) → IsOfInstance h i → Contains (told_by heard l q) h → IsDescribed heard l q i
told-hears None l q h i is c = absurd (Contains-nil h c)
told-hears (Some r) l q h i is c = go (cases_Bool ((r.link == l) && (r.packet.router.0 == q.0)))
  where
    go : (((r.link == l) && (r.packet.router.0 == q.0)) ≡ true) ⊎ (((r.link == l) && (r.packet.router.0 == q.0)) ≡ false) → IsDescribed (Some r) l q i
    go (inl same) =
        let (link, router) = and_parts (r.link == l) (r.packet.router.0 == q.0) same in
        record {
          received = r;
          is_heard = refl;
          link = eqb-true r.link l link;
          from = same_router r.packet.router q (eqb-true r.packet.router.0 q.0 router);
          named = (h, subst (λ hs. Contains hs h) (cond-true _ _ _ same) c, is);
        }
    go (inr other) = absurd (Contains-nil h (subst (λ hs. Contains hs h) (cond-false _ _ _ other) c))

module _ (heard : Option Received) (before : AreaValue) (out : OutputsValue) (after : AreaValue) (g : NeighboursGo heard before out after) where
  pub copy_back : (lsa : List ℕ) → HasCopy after lsa → HasCopy before lsa
  copy_back lsa c = ap copy_in (sym (g.database (key_of lsa))) ∙ c

  copy_on : (lsa : List ℕ) → HasCopy before lsa → HasCopy after lsa
  copy_on lsa c = ap copy_in (g.database (key_of lsa)) ∙ c

  -- one neighbour, by what was there and what is
  asks_go : (l : ℕ) (q : RouterId) (h : LsaHeader) (i : Instance) (o o' : Option NeighbourValue) → IsOfInstance h i → NeighbourGoes before (told_by heard l q) o o' → Contains (list_in (λ n. n.requests) o') h → Contains (list_in (λ n. n.requests) o) h ⊎ IsDescribed heard l q i
  asks_go l q h i None None is goes c = inl c
  asks_go l q h i None (Some n') is goes c = absurd (Contains-nil h (subst (λ hs. Contains hs h) goes.requests c))
  asks_go l q h i (Some n) None is goes c = absurd (Contains-nil h c)
  asks_go l q h i (Some n) (Some n') is goes c = elim (goes.requests h c) [ inl there ↦ inl there | inr told ↦ inr (told-hears heard l q h i is told) ]

  awaits_go : (told : List LsaHeader) (i : Instance) (o o' : Option NeighbourValue) → NeighbourGoes before told o o' → WaitsIn o' i → WaitsIn o i ⊎ HoldsInstance before i
  awaits_go told i None None goes w = inl w
  awaits_go told i None (Some n') goes w = absurd (Contains-nil i (subst (λ ls. Contains (instances ls) i) goes.retransmission w))
  awaits_go told i (Some n) None goes w = absurd w
  awaits_go told i (Some n) (Some n') goes w = goes.retransmission i w

  summary_go : (told : List LsaHeader) (h : LsaHeader) (o o' : Option NeighbourValue) → NeighbourGoes before told o o' → Contains (list_in (λ n. n.summary) o') h → IsOldOrHeld before (list_in (λ n. n.summary) o) h
  summary_go told h None None goes c = inl c
  summary_go told h None (Some n') goes c = absurd (Contains-nil h (subst (λ hs. Contains hs h) goes.summary c))
  summary_go told h (Some n) None goes c = absurd (Contains-nil h c)
  summary_go told h (Some n) (Some n') goes c = goes.summary h c

  last_dd_go : (told : List LsaHeader) (h : LsaHeader) (o o' : Option NeighbourValue) → NeighbourGoes before told o o' → Contains (list_in (λ n. n.last_dd) o') h → Contains (list_in (λ n. n.last_dd) o) h ⊎ IsOldOrHeld before (list_in (λ n. n.summary) o) h
  last_dd_go told h None None goes c = inl c
  last_dd_go told h None (Some n') goes c = absurd (Contains-nil h (subst (λ hs. Contains hs h) goes.last_dd c))
  last_dd_go told h (Some n) None goes c = absurd (Contains-nil h c)
  last_dd_go told h (Some n) (Some n') goes c = goes.last_dd h c

  leaves_go : (told : List LsaHeader) (i : Instance) (o o' : Option NeighbourValue) → NeighbourGoes before told o o' → WaitsIn o i → WaitsIn o' i ⊎ (is_exchanging (state_in o') ≡ false)
  leaves_go told i None None goes w = absurd w
  leaves_go told i None (Some n') goes w = absurd w
  leaves_go told i (Some n) None goes w = inr refl
  leaves_go told i (Some n) (Some n') goes w = goes.stays i w

  names_go : (i : Instance) → CanName after i → CanName before i
  names_go i (CanName.InDatabase (lsa, c, is)) = CanName.InDatabase (lsa, copy_back lsa c, is)
  names_go i (CanName.OnRetransmissionList l q w) = elim (awaits_go (told_by heard l q) i (neighbour before l q) (neighbour after l q) (g.goes l q) w) [ inl there ↦ CanName.OnRetransmissionList l q there | inr held ↦ CanName.InDatabase held ]
  names_go i (CanName.OnSummaryList l q (h, c, is)) = elim (summary_go (told_by heard l q) h (neighbour before l q) (neighbour after l q) (g.goes l q) c) [ inl there ↦ CanName.OnSummaryList l q (h, there, is) | inr held ↦ CanName.InDatabase (held i is) ]
  names_go i (CanName.InLastDd l q (h, c, is)) = elim (last_dd_go (told_by heard l q) h (neighbour before l q) (neighbour after l q) (g.goes l q) c) [ inl there ↦ CanName.InLastDd l q (h, there, is) | inr new ↦ elim new [ inl listed ↦ CanName.OnSummaryList l q (h, listed, is) | inr held ↦ CanName.InDatabase (held i is) ] ]
  names_go i (CanName.ToAcknowledge l (h, c, is)) = CanName.ToAcknowledge l (h, g.waiting l h c, is)
  names_go i (CanName.ToAcknowledgeNow lists) = CanName.ToAcknowledgeNow (subst (λ hs. Lists hs i) g.same_direct lists)

  still_holds : (i : Instance) → HoldsInstance before i → HoldsInstance after i
  still_holds i (lsa, c, is) = (lsa, copy_on lsa c, is)

  pub NeighboursGo-adjusts : Adjusts heard before out after
  NeighboursGo-adjusts = record {
    same_router = g.same_router;
    bears = g.bears;
    copies = λ lsa c. kept_same heard before lsa (copy_back lsa c);
    updates = g.updates;
    names = λ i n. inl (names_go i n);
    named = g.named;
    asks = λ l q i lists. let (h, c, is) = lists in elim (asks_go l q h i (neighbour before l q) (neighbour after l q) is (g.goes l q) c) [ inl there ↦ inl (h, there, is) | inr told ↦ inr told ];
    leaves = λ l q i c. elim (leaves_go (told_by heard l q) i (neighbour before l q) (neighbour after l q) (g.goes l q) c) [ inl stays ↦ inl stays | inr fell ↦ inr (inr fell) ];
    lists = λ held l q i w. elim (awaits_go (told_by heard l q) i (neighbour before l q) (neighbour after l q) (g.goes l q) w) [ inl there ↦ still_holds i (held l q i there) | inr new ↦ still_holds i new ];
    unheld = λ i b. absurd (brings_none out i g.taken g.issued b);
    issues_none = g.issued;
    kept = λ key goes_on. g.numbering key;
    again = λ key ends. absurd (none_ended out key g.ended ends);
    gone = λ key ends. absurd (none_ended out key g.ended ends);
    ends = λ key ends. absurd (none_ended out key g.ended ends);
  }
