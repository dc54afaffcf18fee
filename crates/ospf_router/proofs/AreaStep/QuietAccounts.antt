-- Parts that install and issue nothing.
use Rattle.std.proofs.Common.{◌≡◌, ◌⊎◌, ◌<◌, ◌≤◌, ℕ, true, false, List, [], ◌∷◌, length, map, Option, None, Some, refl, sym, ap, subst, inl, inr, arith, ◌∙◌}
use Rattle.std.specs.Prelude.{◌≤ℤ◌}
use Rattle.std.specs.List.{Contains, slice_get}
use Rattle.std.specs.Option.{option_map}
use Rattle.std.proofs.lemmas.Option.{none-some, same_Some}
use Rattle.std.proofs.lemmas.Bool.{false≢true, cases_Bool}
use Rattle.std.proofs.lemmas.Int.{ints}
use Rattle.ospf_base.specs.Sums.{contents}
use Rattle.ospf_base.specs.declared.ids.Instance.{Instance}
use Rattle.ospf_base.specs.declared.ids.LsaKey.{LsaKey}
use Rattle.ospf_base.specs.declared.ids.RouterId.{RouterId}
use Rattle.ospf_lsa.proofs.Aging.{IsLsa-age}
use Rattle.ospf_lsdb.specs.Database.{Entry, lsa_of}
use Rattle.ospf_lsa.specs.Lsa.{IsLsa, key_of, instance_of}
use Rattle.ospf_lsa.specs.declared.header.LsaHeader.{LsaHeader}
use Rattle.ospf_packet.specs.Meaning.{BodyMeaning, Meaning}
use Rattle.ospf_neighbour.specs.Laws.{Waits}
use Rattle.ospf_neighbour.specs.Machine.{is_exchanging}
use Rattle.ospf_neighbour.specs.Neighbour.{NeighbourValue}
use Rattle.ospf_area.specs.Outputs.{OutputsValue, no_outputs}
use Rattle.ospf_area.specs.State.{AreaValue, LinkValue, neighbour, database_entry, kept_number, Awaits, WaitsIn, state_in, copy_of}
use Rattle.ospf_area.proofs.Words.{copy_in, state_of}
use Rattle.ospf_area.specs.Acting.{Becomes}
use Rattle.ospf_router.specs.AreaStep.Headers.{IsOfInstance, Lists}
use Rattle.ospf_router.specs.AreaStep.Packets.{Received, lsas_of, headers_in_body, dd_headers_of, acknowledging_headers_of}
use Rattle.ospf_area.specs.Places.{map_from}
use Rattle.ospf_router.specs.AreaStep.Words.{CanName, HoldsInstance, HasCopy, Brings, IsSoundState, delayed, Asks, ListsAreHeld}
use Rattle.ospf_area.specs.Updates.Removal.{lowest_number}
use Rattle.ospf_lsdb.specs.Moments.{among}
use Rattle.ospf_router.specs.AreaStep.Accounts.{Accounts, WasHeld, WasKept, HasLargest, Numbers, HasContents, Hears, IsAcknowledged, Sends, MayLeave, IsDescribed}
use Rattle.ospf_router.proofs.AreaStep.StateFacts.{Contains-nil, same_contents, neighbour-changed, link-changed, neighbour-router, list-changed, list_in, delayed_in}

-- a part of a step that installs and issues nothing: what it holds and asks for it did before, what
-- it names it could name before or took without a copy, and lists are left by what the neighbour
-- names or by a neighbour below Exchange
pub record Adjusts (heard : Option Received) (before : AreaValue) (out : OutputsValue)
    (after : AreaValue) : Type 0 where
  pub same_router : after.router ≡ before.router
  pub bears : (p : Meaning) → Sends out p → p.router ≡ before.router
  pub copies : (lsa : List ℕ) → HasCopy after lsa → WasKept heard before lsa
  pub updates : (p : Meaning) (lsa : List ℕ) → Sends out p → Contains (lsas_of p.body) lsa
      → WasHeld before (contents lsa)
  pub names : (i : Instance) → CanName after i → CanName before i ⊎ Brings out i
  pub named : (p : Meaning) (i : Instance) → Sends out p → Lists (headers_in_body p.body) i
      → CanName before i
  pub asks : (l : ℕ) (q : RouterId) (i : Instance) → Asks after l q i
      → Asks before l q i ⊎ IsDescribed heard l q i
  pub leaves : (l : ℕ) (q : RouterId) (i : Instance) → Awaits before l q i
      → Awaits after l q i
      ⊎ (IsAcknowledged heard l q i ⊎ (is_exchanging (state_in (neighbour after l q)) ≡ false))
  pub lists : ListsAreHeld before → ListsAreHeld after
  pub unheld : (i : Instance) → Brings out i → HoldsInstance after i → ⊥
  pub issues_none : out.issued ≡ []
  pub kept : (key : LsaKey) → among out.ended key ≡ false
      → kept_number after key ≡ kept_number before key
  pub again : (key : LsaKey) → among out.ended key ≡ true → kept_number after key ≡ lowest_number
  pub gone : (key : LsaKey) → among out.ended key ≡ true → copy_of after key ≡ None
  pub ends : (key : LsaKey) → among out.ended key ≡ true → HasLargest heard before out

pub brings_none : (out : OutputsValue) (i : Instance) → out.taken ≡ [] → out.issued ≡ [] → Brings out i → ⊥
brings_none out i taken issued (Brings.Takes c) = Contains-nil i (subst (λ is. Contains is i) taken c)
brings_none out i taken issued (Brings.Issues lsa c e) = Contains-nil lsa (subst (λ lsas. Contains lsas lsa) issued c)

pub none_ended : (out : OutputsValue) (key : LsaKey) → out.ended ≡ [] → among out.ended key ≡ true → ⊥
none_ended out key none ends = false≢true (sym (ap (λ keys. among keys key) none) ∙ ends)

-- numbers where nothing is issued
pub Numbers-none_issued : (heard : Option Received) (before : AreaValue) (out : OutputsValue) (after : AreaValue) → out.issued ≡ [] → ((key : LsaKey) → among out.ended key ≡ false → kept_number before key ≤ℤ kept_number after key) → ((key : LsaKey) → among out.ended key ≡ true → kept_number after key ≡ lowest_number) → ((key : LsaKey) → among out.ended key ≡ true → HasLargest heard before out) → Numbers heard before out after
Numbers-none_issued heard before out after none kept again ends = record {
  own = λ lsa c. absurd (never lsa c);
  above = λ lsa c. absurd (never lsa c);
  rising = λ i j d lt within. absurd (nothing_within j within);
  kept = kept;
  known = λ lsa c goes_on. absurd (never lsa c);
  again = again;
  ends = ends;
}
  where
    never : (lsa : List ℕ) → Contains out.issued lsa → ⊥
    never lsa c = Contains-nil lsa (subst (λ lsas. Contains lsas lsa) none c)

    nothing_within : (j : ℕ) → j < length out.issued → ⊥
    nothing_within j within = let empty : length out.issued ≡ 0 = ap length none in omega arith

-- a copy that is as it was
pub kept_same : (heard : Option Received) (before : AreaValue) (lsa : List ℕ) → HasCopy before lsa → WasKept heard before lsa
kept_same heard before lsa c = record { old = lsa; copy = c; same = refl; age = inl refl }

-- what only adjusts accounts for all
pub Adjusts-accounts : (heard : Option Received) (before : AreaValue) (out : OutputsValue) (after : AreaValue) → Adjusts heard before out after → Accounts heard before out after
Adjusts-accounts heard before out after a = record {
  same_router = a.same_router;
  bears = a.bears;
  database = λ lsa c. let was = a.copies lsa c in HasContents.Held was.old was.copy was.same;
  updates = λ p lsa sends c. let was = a.updates p lsa sends c in HasContents.Held was.lsa was.copy was.same;
  names = a.names;
  named = λ p i sends c. inl (a.named p i sends c);
  holds = λ i h. let (lsa, copy, is) = h in let was = a.copies lsa copy in inl (was.old, was.copy, same_contents was.old lsa was.same ∙ is);
  asks = a.asks;
  leaves = λ l q i c. elim (a.leaves l q i c) [ inl stays ↦ inl (record { awaits = stays; kept = λ lsa c is. a.copies lsa c }) | inr left ↦ inr (elim left [ inl heard ↦ MayLeave.Acknowledged heard | inr fell ↦ MayLeave.Fell fell ]) ];
  listed = λ l q i brings holds up. absurd (a.unheld i brings holds);
  numbers = Numbers-none_issued heard before out after a.issues_none (λ key goes_on. subst (λ n. kept_number before key ≤ℤ n) (sym (a.kept key goes_on)) (omega (arith, ints))) a.again a.ends;
}

-- an LSA of the same contents
same_lsa : (a b : List ℕ) → contents a ≡ contents b → 2 ≤ length b → IsLsa a → IsLsa b
same_lsa a [] same long is = absurd (omega arith)
same_lsa a (x ∷ []) same long is = absurd (omega arith)
same_lsa a (x ∷ y ∷ rest) same long is = subst (λ c. IsLsa (x ∷ y ∷ c)) same (IsLsa-age a x y is)

-- a copy has its two bytes of the age
pub copy_long : (s : AreaValue) (lsa : List ℕ) → HasCopy s lsa → 2 ≤ length lsa
copy_long s lsa c = go (database_entry s (key_of lsa)) c
  where
    go : (o : Option Entry) → copy_in o ≡ Some lsa → 2 ≤ length lsa
    go None e = absurd (none-some lsa e)
    go (Some e) is = subst (λ l. 2 ≤ length l) (same_Some (lsa_of e) lsa is) (omega arith)

pub Adjusts-sound : (heard : Option Received) (before : AreaValue) (out : OutputsValue) (after : AreaValue) → Adjusts heard before out after → IsSoundState before → IsSoundState after
Adjusts-sound heard before out after a sound = record {
  lsas = λ lsa c. let was = a.copies lsa c in same_lsa was.old lsa was.same (copy_long after lsa c) (sound.lsas was.old was.copy);
  numbers = λ lsa c own. by_end lsa c own (cases_Bool (among out.ended (key_of lsa)));
  lists = a.lists sound.lists;
}
  where
    by_end : (lsa : List ℕ) → HasCopy after lsa → (key_of lsa).router ≡ after.router → (among out.ended (key_of lsa) ≡ true) ⊎ (among out.ended (key_of lsa) ≡ false) → (instance_of lsa).number ≤ℤ kept_number after (key_of lsa)
    by_end lsa c own (inl ends) = absurd (none-some lsa (sym (a.gone (key_of lsa) ends) ∙ c))
    by_end lsa c own (inr goes_on) =
        let was = a.copies lsa c in
        let one : instance_of was.old ≡ instance_of lsa = same_contents was.old lsa was.same in
        let own_before : (key_of was.old).router ≡ before.router = ap (λ i. i.key.router) one ∙ (own ∙ a.same_router) in
        subst (λ n. (instance_of lsa).number ≤ℤ n) (sym (a.kept (key_of lsa) goes_on))
        (subst (λ i. i.number ≤ℤ kept_number before i.key) one (sound.numbers was.old was.copy own_before))

-- nothing happens
pub Unchanged-adjusts : (heard : Option Received) (before : AreaValue) (out : OutputsValue) (after : AreaValue) → Becomes before no_outputs out after → Adjusts heard before out after
Unchanged-adjusts heard before out after u =
    subst (λ after. Adjusts heard before out after) (sym u.state) (subst (λ out. Adjusts heard before out before) (sym u.outputs) (record {
      same_router = refl;
      bears = λ p sends. absurd (nothing p sends);
      copies = kept_same heard before;
      updates = λ p lsa sends c. absurd (nothing p sends);
      names = λ i n. inl n;
      named = λ p i sends c. absurd (nothing p sends);
      asks = λ l q h c. inl c;
      leaves = λ l q i c. inl c;
      lists = λ held. held;
      unheld = λ i b. absurd (brings_none no_outputs i refl refl b);
      issues_none = refl;
      kept = λ key goes_on. refl;
      again = λ key ends. absurd (false≢true ends);
      gone = λ key ends. absurd (false≢true ends);
      ends = λ key ends. absurd (false≢true ends);
    }))
  where
    nothing : (p : Meaning) → Sends no_outputs p → ⊥
    nothing p sends = Contains-nil sends.datagram sends.sent

-- what is so with no packet heard is so with any, where no copy changes its age
pub Adjusts-with_packet : (heard : Option Received) (before : AreaValue) (out : OutputsValue) (after : AreaValue) → ((lsa : List ℕ) → HasCopy after lsa → HasCopy before lsa) → Adjusts None before out after → Adjusts heard before out after
Adjusts-with_packet heard before out after same a = record {
  same_router = a.same_router;
  bears = a.bears;
  copies = λ lsa c. kept_same heard before lsa (same lsa c);
  updates = a.updates;
  names = a.names;
  named = a.named;
  lists = a.lists;
  unheld = a.unheld;
  issues_none = a.issues_none;
  kept = a.kept;
  again = a.again;
  gone = a.gone;
  ends = λ key e. let largest = a.ends key e in record { lsa = largest.lsa; has = hear (contents largest.lsa) largest.has; number = largest.number };
  asks = λ l q i c. elim (a.asks l q i c) [ inl there ↦ inl there | inr e ↦ absurd (deaf dd_headers_of l q i e) ];
  leaves = λ l q i c. elim (a.leaves l q i c) [ inl stays ↦ inl stays | inr left ↦ inr (elim left [ inl e ↦ absurd (deaf acknowledging_headers_of l q i e) | inr fell ↦ inr fell ]) ];
}
  where
    hear : (content : List ℕ) → HasContents None before out content → HasContents heard before out content
    hear content (HasContents.Held lsa c e) = HasContents.Held lsa c e
    hear content (HasContents.Heard p lsa h c e) = absurd (none-some p h)
    hear content (HasContents.Issued lsa c e) = HasContents.Issued lsa c e

    deaf : (headers : BodyMeaning → List LsaHeader) (l : ℕ) (q : RouterId) (i : Instance) → Hears headers None l q i → ⊥
    deaf headers l q i e = none-some e.received e.is_heard

-- the header is of what the router can name, or takes now
abbrev pub IsNamed : AreaValue → OutputsValue → LsaHeader → Type 0
IsNamed s out h = (i : Instance) → IsOfInstance h i → CanName s i ⊎ Brings out i

-- a change of neighbours that only shrinks their lists. The database, the numbers and the Router ID stay
pub record OnlyShrinks (heard : Option Received) (before : AreaValue) (out : OutputsValue) (f : ℕ → LinkValue → LinkValue) (g : ℕ → NeighbourValue → NeighbourValue) (after : AreaValue) : Type 0 where
  pub links : after.links ≡ map_from f 0 before.links
  pub same_router : after.router ≡ before.router
  pub database : (key : LsaKey) → database_entry after key ≡ database_entry before key
  pub numbering : (key : LsaKey) → kept_number after key ≡ kept_number before key
  pub direct : (h : LsaHeader) → Contains after.direct h → Contains before.direct h ⊎ IsNamed before out h
  pub each : (l : ℕ) (link : LinkValue) → (f l link).neighbours ≡ map (g l) link.neighbours
  pub router : (l : ℕ) (n : NeighbourValue) → (g l n).router ≡ n.router
  pub retransmission : (l : ℕ) (n : NeighbourValue) (i : Instance) → Waits (g l n) i → Waits n i
  pub requests : (l : ℕ) (n : NeighbourValue) (h : LsaHeader) → Contains (g l n).requests h → Contains n.requests h
  pub summary : (l : ℕ) (n : NeighbourValue) (h : LsaHeader) → Contains (g l n).summary h → Contains n.summary h
  pub last_dd : (l : ℕ) (n : NeighbourValue) (h : LsaHeader) → Contains (g l n).last_dd h → Contains n.last_dd h
  pub waiting : (l : ℕ) (link : LinkValue) (h : LsaHeader) → Contains (f l link).delayed h → Contains link.delayed h ⊎ IsNamed before out h
  pub leaves : (l : ℕ) (n : NeighbourValue) (i : Instance) → Waits n i → Waits (g l n) i ⊎ (IsAcknowledged heard l n.router i ⊎ (is_exchanging (g l n).state ≡ false))

-- the outputs install, issue and end nothing, and their packets have copies, and name what the router can name
pub record OnlySendsKnown (before : AreaValue) (out : OutputsValue) : Type 0 where
  pub unheld : (i : Instance) → Brings out i → HoldsInstance before i → ⊥
  pub issued : out.issued ≡ []
  pub ended : out.ended ≡ []
  pub bears : (p : Meaning) → Sends out p → p.router ≡ before.router
  pub updates : (p : Meaning) (lsa : List ℕ) → Sends out p → Contains (lsas_of p.body) lsa → WasHeld before (contents lsa)
  pub named : (p : Meaning) (i : Instance) → Sends out p → Lists (headers_in_body p.body) i → CanName before i

pub waits_in : (o : Option NeighbourValue) (i : Instance) → WaitsIn o i → (n : NeighbourValue) × (o ≡ Some n) × Waits n i
waits_in None i w = absurd w
waits_in (Some n) i w = (n, refl, w)

module _ (heard : Option Received) (before : AreaValue) (out : OutputsValue) (after : AreaValue) (f : ℕ → LinkValue → LinkValue) (g : ℕ → NeighbourValue → NeighbourValue) (shrinks : OnlyShrinks heard before out f g after) (sends : OnlySendsKnown before out) where
  shrunk : (l : ℕ) (q : RouterId) → neighbour after l q ≡ option_map (g l) (neighbour before l q)
  shrunk l q = neighbour-changed f g before after shrinks.links shrinks.each shrinks.router l q

  shrunk_list : {A : Type 0} (list : NeighbourValue → List A) → ((l : ℕ) (n : NeighbourValue) (x : A) → Contains (list (g l n)) x → Contains (list n) x) → (l : ℕ) (q : RouterId) (x : A) → Contains (list_in list (neighbour after l q)) x → Contains (list_in list (neighbour before l q)) x
  shrunk_list list less l q x c =
      let (n, at, inside) = list-changed list (g l) (neighbour before l q) (neighbour after l q) x (shrunk l q) c in
      subst (λ o. Contains (list_in list o) x) (sym at) (less l n x inside)

  awaits_shrunk : (l : ℕ) (q : RouterId) (i : Instance) → Awaits after l q i → Awaits before l q i
  awaits_shrunk l q i w = go (neighbour before l q) (subst (λ o. WaitsIn o i) (shrunk l q) w)
    where
      go : (o : Option NeighbourValue) → WaitsIn (option_map (g l) o) i → WaitsIn o i
      go None w = w
      go (Some n) w = shrinks.retransmission l n i w

  same_copy : (lsa : List ℕ) → HasCopy after lsa → HasCopy before lsa
  same_copy lsa c = ap copy_in (sym (shrinks.database (key_of lsa))) ∙ c

  still_has : (lsa : List ℕ) → HasCopy before lsa → HasCopy after lsa
  still_has lsa c = ap copy_in (shrinks.database (key_of lsa)) ∙ c

  delayed_shrunk : (l : ℕ) (h : LsaHeader) → Contains (delayed after l) h → Contains (delayed before l) h ⊎ IsNamed before out h
  delayed_shrunk l h c = go (slice_get before.links l) (subst (λ o. Contains (delayed_in o) h) (link-changed f before after l shrinks.links) c)
    where
      go : (o : Option LinkValue) → Contains (delayed_in (option_map (f l) o)) h → Contains (delayed_in o) h ⊎ IsNamed before out h
      go None c = inl c
      go (Some link) c = shrinks.waiting l link h c

  names_shrunk : (i : Instance) → CanName after i → CanName before i ⊎ Brings out i
  names_shrunk i (CanName.InDatabase (lsa, copy, is)) = inl (CanName.InDatabase (lsa, same_copy lsa copy, is))
  names_shrunk i (CanName.OnRetransmissionList l q c) = inl (CanName.OnRetransmissionList l q (awaits_shrunk l q i c))
  names_shrunk i (CanName.OnSummaryList l q (h, c, is)) = inl (CanName.OnSummaryList l q (h, shrunk_list (λ n. n.summary) shrinks.summary l q h c, is))
  names_shrunk i (CanName.InLastDd l q (h, c, is)) = inl (CanName.InLastDd l q (h, shrunk_list (λ n. n.last_dd) shrinks.last_dd l q h c, is))
  names_shrunk i (CanName.ToAcknowledge l (h, c, is)) = elim (delayed_shrunk l h c) [ inl there ↦ inl (CanName.ToAcknowledge l (h, there, is)) | inr known ↦ known i is ]
  names_shrunk i (CanName.ToAcknowledgeNow (h, c, is)) = elim (shrinks.direct h c) [ inl there ↦ inl (CanName.ToAcknowledgeNow (h, there, is)) | inr known ↦ known i is ]

  leaves_shrunk : (l : ℕ) (q : RouterId) (i : Instance) → Awaits before l q i → Awaits after l q i ⊎ (IsAcknowledged heard l q i ⊎ (is_exchanging (state_of after l q) ≡ false))
  leaves_shrunk l q i c =
      let (n, at, waits) = waits_in (neighbour before l q) i c in
      let now : neighbour after l q ≡ Some (g l n) = shrunk l q ∙ ap (option_map (g l)) at in
      elim (shrinks.leaves l n i waits) [
        | inl stays ↦ inl (subst (λ o. WaitsIn o i) (sym now) stays)
        | inr left ↦ inr (elim left [
          | inl named ↦ inl (subst (λ q. IsAcknowledged heard l q i) (neighbour-router before l q n at) named)
          | inr fell ↦ inr (ap (λ o. is_exchanging (state_in o)) now ∙ fell)
        ])
      ]

  pub Shrinks-adjusts : Adjusts heard before out after
  Shrinks-adjusts = record {
    same_router = shrinks.same_router;
    bears = sends.bears;
    copies = λ lsa c. kept_same heard before lsa (same_copy lsa c);
    updates = sends.updates;
    names = names_shrunk;
    named = sends.named;
    asks = λ l q i lists. let (h, c, is) = lists in inl (h, shrunk_list (λ n. n.requests) shrinks.requests l q h c, is);
    leaves = leaves_shrunk;
    lists = λ held l q i w. let (lsa, c, is) = held l q i (awaits_shrunk l q i w) in (lsa, still_has lsa c, is);
    unheld = λ i b holds. let (lsa, c, is) = holds in sends.unheld i b (lsa, same_copy lsa c, is);
    issues_none = sends.issued;
    kept = λ key goes_on. shrinks.numbering key;
    again = λ key ends. absurd (none_ended out key sends.ended ends);
    gone = λ key ends. absurd (none_ended out key sends.ended ends);
    ends = λ key ends. absurd (none_ended out key sends.ended ends);
  }
