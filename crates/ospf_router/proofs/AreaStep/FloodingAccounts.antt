-- An LSA is stored in place of its key's copy, and flooded.
use Rattle.std.proofs.Common.{◌≡◌, ◌⊎◌, ℕ, true, false, Bool, List, [], map, Option, None, Some, refl, sym, ap, subst, inl, inr, arith, ◌∙◌}
use Rattle.std.specs.Prelude.{◌≤ℤ◌, if◌then◌else◌}
use Rattle.std.proofs.lemmas.Int.{ints}
use Rattle.std.specs.List.{Contains, slice_get}
use Rattle.std.specs.Option.{option_map}
use Rattle.std.proofs.lemmas.Option.{same_Some}
use Rattle.std.proofs.lemmas.Bool.{false≢true, cases_Bool, cond-true, cond-false}
use Rattle.ospf_base.specs.Constants.{max_age}
use Rattle.ospf_base.specs.Instances.{Covers}
use Rattle.ospf_base.specs.Sums.{contents}
use Rattle.ospf_base.specs.declared.ids.Instance.{Instance}
use Rattle.ospf_base.specs.declared.ids.LsaKey.{LsaKey}
use Rattle.ospf_base.specs.declared.ids.RouterId.{RouterId}
use Rattle.ospf_lsa.specs.Header.{header_of}
use Rattle.ospf_lsa.specs.Lsa.{IsLsa, key_of, instance_of}
use Rattle.ospf_lsa.specs.Recency.{recency}
use Rattle.ospf_lsa.specs.declared.header.LsaHeader.{LsaHeader}
use Rattle.ospf_lsa.specs.declared.recency.Recency.TheVariants.{Newer}
use Rattle.ospf_lsdb.specs.Database.{Entry, lsa_of, key_in, instance_at}
use Rattle.ospf_base.specs.Keys.{same_key}
use Rattle.ospf_base.proofs.SameKeys.{same_key-eq, same_key-refl}
use Rattle.ospf_packet.specs.Meaning.{Meaning}
use Rattle.ospf_neighbour.specs.Laws.{Waits}
use Rattle.ospf_neighbour.specs.Machine.{is_exchanging}
use Rattle.ospf_neighbour.specs.Neighbour.{NeighbourValue}
use Rattle.ospf_area.specs.Outputs.{OutputsValue}
use Rattle.ospf_area.specs.State.{AreaValue, LinkValue, neighbour, database_entry, copy_of, kept_number, Awaits, WaitsIn, state_in}
use Rattle.ospf_area.proofs.Words.{copy_in, state_of}
use Rattle.ospf_router.specs.AreaStep.Headers.{IsOfInstance, Lists}
use Rattle.ospf_router.specs.AreaStep.Packets.{Received, lsas_of, headers_in_body}
use Rattle.ospf_area.specs.Places.{map_from}
use Rattle.ospf_router.specs.AreaStep.Words.{CanName, HoldsInstance, HasCopy, Asks, Brings, ListsAreHeld, IsSoundState, delayed}
use Rattle.ospf_lsdb.specs.Moments.{among}
use Rattle.ospf_router.specs.AreaStep.Accounts.{Accounts, Numbers, HasContents, IsAcknowledged, IsDescribed, TakesItsPlace, Sends, HasWord, MayLeave, WaitsOn, WasKept, NoneEntersExchange}
use Rattle.ospf_router.proofs.AreaStep.StateFacts.{Contains-nil, same_contents, neighbour-changed, link-changed, neighbour-router, list-changed, held_agree, key_of-lsa_of, copy_of-has, list_in, delayed_in}
use Rattle.ospf_router.proofs.AreaStep.QuietAccounts.{kept_same, waits_in}

-- a neighbour in Exchange or above gets the LSA on its list, or sent it, or asked for it or a later one
pub data Reached (i : Instance) (came : Bool) (n m : NeighbourValue) : Type 0 where
  IsListed : Waits m i → Reached i came n m
  SentIt : came ≡ true → Reached i came n m
  AskedFor : (h : LsaHeader) (j : Instance) → Contains n.requests h → IsOfInstance h j → Covers j i → Reached i came n m

-- an LSA of instance i is flooded past a neighbour, which becomes m. Where the key's copy was of this very instance,
-- Kept, others of the key need not have left its list
pub record FloodsTo (i : Instance) (Kept : Type 0) (came : Bool) (n m : NeighbourValue) : Type 0 where
  pub router : m.router ≡ n.router
  pub state : m.state ≡ n.state
  pub summary : m.summary ≡ n.summary
  pub last_dd : m.last_dd ≡ n.last_dd
  pub requests : (h : LsaHeader) → Contains m.requests h → Contains n.requests h
  pub old : (j : Instance) → Waits m j → (j ≡ i) ⊎ (Waits n j × (j.key ≡ i.key → Kept))
  pub leaves : (j : Instance) → Waits n j → Waits m j ⊎ (j.key ≡ i.key)
  pub reached : is_exchanging n.state ≡ true → Reached i came n m

-- the entry takes the place of its key's (13.2)
abbrev pub Stores : Entry → AreaValue → AreaValue → Type 0
Stores e before after = (key : LsaKey) → database_entry after key ≡ (if same_key (key_in e.contents) key then Some e else database_entry before key)

-- the entry is stored, and flooded by f over the links and by g over the neighbours; some acknowledgements are delayed
pub record IsFlooded (e : Entry) (came : ℕ → NeighbourValue → Bool) (acks : ℕ → List LsaHeader) (f : ℕ → LinkValue → LinkValue) (g : ℕ → NeighbourValue → NeighbourValue) (before after : AreaValue) : Type 0 where
  pub database : Stores e before after
  pub links : after.links ≡ map_from f 0 before.links
  pub each : (l : ℕ) (link : LinkValue) → (f l link).neighbours ≡ map (g l) link.neighbours
  pub waiting : (l : ℕ) (link : LinkValue) (h : LsaHeader) → Contains (f l link).delayed h → Contains link.delayed h ⊎ Contains (acks l) h
  pub floods : (l : ℕ) (n : NeighbourValue) → FloodsTo (instance_at e) (HoldsInstance before (instance_at e)) (came l n) n (g l n)
  pub same_router : after.router ≡ before.router
  pub direct : (h : LsaHeader) → Contains after.direct h → Contains before.direct h

-- why instances of the key may leave lists: the LSA is newer than the copy, and takes its place; or it is the copy at
-- MaxAge, which stays where it was
pub data Replaces (heard : Option Received) (out : OutputsValue) (e : Entry) (g : ℕ → NeighbourValue → NeighbourValue) (copy : List ℕ) : Type 0 where
  ByNewer : (new : List ℕ) → instance_of new ≡ instance_at e → recency (header_of new) (header_of copy) ≡ Newer → TakesItsPlace heard out copy new → Replaces heard out e g copy
  ByItself : contents copy ≡ e.contents → (header_of (lsa_of e)).age ≡ max_age → ((l : ℕ) (n : NeighbourValue) → Waits n (instance_at e) → Waits (g l n) (instance_at e)) → Replaces heard out e g copy

-- what is known beside the flooding itself
pub record IsAccounted (heard : Option Received) (before : AreaValue) (out : OutputsValue) (after : AreaValue) (e : Entry) (came : ℕ → NeighbourValue → Bool) (acks : ℕ → List LsaHeader) (g : ℕ → NeighbourValue → NeighbourValue) : Type 0 where
  pub is_lsa : IsLsa (lsa_of e)
  pub replaces : (copy : List ℕ) → copy_of before (key_in e.contents) ≡ Some copy → Replaces heard out e g copy
  pub known : CanName before (instance_at e) ⊎ Brings out (instance_at e)
  pub holds : HoldsInstance before (instance_at e) ⊎ Brings out (instance_at e)
  pub has : HasContents heard before out e.contents
  pub brings_only : (i : Instance) → Brings out i → i ≡ instance_at e
  pub told : (l : ℕ) (n : NeighbourValue) → came l n ≡ true → IsAcknowledged heard l n.router (instance_at e)
  pub acknowledged : (l : ℕ) (h : LsaHeader) (i : Instance) → Contains (acks l) h → IsOfInstance h i → i ≡ instance_at e
  pub bears : (p : Meaning) → Sends out p → p.router ≡ before.router
  pub sends : (p : Meaning) (lsa : List ℕ) → Sends out p → Contains (lsas_of p.body) lsa → contents lsa ≡ e.contents
  pub names : (p : Meaning) (i : Instance) → Sends out p → Lists (headers_in_body p.body) i → i ≡ instance_at e
  pub numbers : Numbers heard before out after
  pub counted : (instance_at e).key.router ≡ before.router → (instance_at e).number ≤ℤ kept_number after (instance_at e).key
  pub none_ended : out.ended ≡ []

exchanging_in : (o : Option NeighbourValue) (g : NeighbourValue → NeighbourValue) → is_exchanging (state_in (option_map g o)) ≡ true → (n : NeighbourValue) × (o ≡ Some n) × (is_exchanging (g n).state ≡ true)
exchanging_in None g up = absurd (false≢true up)
exchanging_in (Some n) g up = (n, refl, up)

module _ (heard : Option Received) (before : AreaValue) (out : OutputsValue) (after : AreaValue) (e : Entry) (came : ℕ → NeighbourValue → Bool) (acks : ℕ → List LsaHeader) (f : ℕ → LinkValue → LinkValue) (g : ℕ → NeighbourValue → NeighbourValue) (fl : IsFlooded e came acks f g before after) (a : IsAccounted heard before out after e came acks g) where
  this : Instance
  this = instance_at e

  this_key : this.key ≡ key_in e.contents
  unfolding this
  this_key = key_of-lsa_of e

  neighbour_after : (l : ℕ) (q : RouterId) → neighbour after l q ≡ option_map (g l) (neighbour before l q)
  neighbour_after l q = neighbour-changed f g before after fl.links fl.each (λ l n. (fl.floods l n).router) l q

  list_after : {A : Type 0} (list : NeighbourValue → List A) (l : ℕ) (q : RouterId) (x : A) → Contains (list_in list (neighbour after l q)) x → (n : NeighbourValue) × (neighbour before l q ≡ Some n) × Contains (list (g l n)) x
  list_after list l q x c = list-changed list (g l) (neighbour before l q) (neighbour after l q) x (neighbour_after l q) c

  list_before : {A : Type 0} (list : NeighbourValue → List A) (l : ℕ) (q : RouterId) (n : NeighbourValue) (x : A) → neighbour before l q ≡ Some n → Contains (list n) x → Contains (list_in list (neighbour before l q)) x
  list_before list l q n x at c = subst (λ o. Contains (list_in list o) x) (sym at) c

  awaits_after : (l : ℕ) (q : RouterId) (i : Instance) → Awaits after l q i → (n : NeighbourValue) × (neighbour before l q ≡ Some n) × Waits (g l n) i
  awaits_after l q i w = go (neighbour before l q) refl (subst (λ o. WaitsIn o i) (neighbour_after l q) w)
    where
      go : (o : Option NeighbourValue) → neighbour before l q ≡ o → WaitsIn (option_map (g l) o) i → (n : NeighbourValue) × (neighbour before l q ≡ Some n) × Waits (g l n) i
      go None at w = absurd w
      go (Some n) at w = (n, at, w)

  to_after : (l : ℕ) (q : RouterId) (n : NeighbourValue) (i : Instance) → neighbour before l q ≡ Some n → Waits (g l n) i → Awaits after l q i
  to_after l q n i at w = subst (λ o. WaitsIn o i) (sym (neighbour_after l q ∙ ap (option_map (g l)) at)) w

  to_before : (l : ℕ) (q : RouterId) (n : NeighbourValue) (i : Instance) → neighbour before l q ≡ Some n → Waits n i → Awaits before l q i
  to_before l q n i at w = subst (λ o. WaitsIn o i) (sym at) w

  -- the database
  copy_stored : (key : LsaKey) → same_key (key_in e.contents) key ≡ true → copy_of after key ≡ Some (lsa_of e)
  copy_stored key same = ap copy_in (fl.database key ∙ cond-true _ _ _ same)

  copy_other : (key : LsaKey) → same_key (key_in e.contents) key ≡ false → copy_of after key ≡ copy_of before key
  copy_other key other = ap copy_in (fl.database key ∙ cond-false _ _ _ other)

  has_this : HasCopy after (lsa_of e)
  has_this = copy_stored (key_of (lsa_of e)) (subst (λ key. same_key (key_in e.contents) key ≡ true) (sym (key_of-lsa_of e)) (same_key-refl (key_in e.contents)))

  holds_this : HoldsInstance after this
  unfolding this
  holds_this = (lsa_of e, has_this, refl)

  copy_after : (lsa : List ℕ) → HasCopy after lsa → HasCopy before lsa ⊎ (lsa_of e ≡ lsa)
  copy_after lsa c = elim (cases_Bool (same_key (key_in e.contents) (key_of lsa))) [
    | inl same ↦ inr (same_Some (lsa_of e) lsa (sym (copy_stored (key_of lsa) same) ∙ c))
    | inr other ↦ inl (sym (copy_other (key_of lsa) other) ∙ c)
  ]

  holds_on : (i : Instance) → HoldsInstance before i → (i ≡ this) ⊎ ((i.key ≡ this.key) ⊎ HoldsInstance after i)
  unfolding this
  holds_on i (lsa, c, is) = elim (cases_Bool (same_key (key_in e.contents) (key_of lsa))) [
    | inl same ↦ inr (inl (sym (ap (λ i. i.key) is) ∙ (sym (same_key-eq (key_in e.contents) (key_of lsa) same) ∙ sym (key_of-lsa_of e))))
    | inr other ↦ inr (inr (lsa, copy_other (key_of lsa) other ∙ c, is))
  ]

  database_accounted : (lsa : List ℕ) → HasCopy after lsa → HasContents heard before out (contents lsa)
  database_accounted lsa c = elim (copy_after lsa c) [ inl there ↦ HasContents.Held lsa there refl | inr new ↦ subst (λ k. HasContents heard before out k) (ap contents new) a.has ]

  holds_accounted : (i : Instance) → HoldsInstance after i → HoldsInstance before i ⊎ Brings out i
  holds_accounted i (lsa, c, is) = elim (copy_after lsa c) [ inl there ↦ inl (lsa, there, is) | inr new ↦ subst (λ i. HoldsInstance before i ⊎ Brings out i) (ap instance_of new ∙ is) a.holds ]

  known_as : (i : Instance) → i ≡ this → CanName before i ⊎ Brings out i
  unfolding this
  known_as i same = subst (λ i. CanName before i ⊎ Brings out i) (sym same) a.known

  awaits_accounted : (l : ℕ) (q : RouterId) (i : Instance) → Awaits after l q i → CanName before i ⊎ Brings out i
  unfolding this
  awaits_accounted l q i w =
      let (n, at, m) = awaits_after l q i w in
      elim ((fl.floods l n).old i m) [ inl new ↦ known_as i new | inr old ↦ inl (CanName.OnRetransmissionList l q (to_before l q n i at old.0)) ]

  delayed_after : (l : ℕ) (h : LsaHeader) → Contains (delayed after l) h → Contains (delayed before l) h ⊎ Contains (acks l) h
  delayed_after l h c = go (slice_get before.links l) (subst (λ o. Contains (delayed_in o) h) (link-changed f before after l fl.links) c)
    where
      go : (o : Option LinkValue) → Contains (delayed_in (option_map (f l) o)) h → Contains (delayed_in o) h ⊎ Contains (acks l) h
      go None c = absurd (Contains-nil h c)
      go (Some link) c = fl.waiting l link h c

  names_accounted : (i : Instance) → CanName after i → CanName before i ⊎ Brings out i
  unfolding this
  names_accounted i (CanName.InDatabase holds) = elim (holds_accounted i holds) [ inl there ↦ inl (CanName.InDatabase there) | inr new ↦ inr new ]
  names_accounted i (CanName.OnRetransmissionList l q w) = awaits_accounted l q i w
  names_accounted i (CanName.OnSummaryList l q (h, c, is)) =
      let (n, at, m) = list_after (λ n. n.summary) l q h c in
      inl (CanName.OnSummaryList l q (h, list_before (λ n. n.summary) l q n h at (subst (λ hs. Contains hs h) (fl.floods l n).summary m), is))
  names_accounted i (CanName.InLastDd l q (h, c, is)) =
      let (n, at, m) = list_after (λ n. n.last_dd) l q h c in
      inl (CanName.InLastDd l q (h, list_before (λ n. n.last_dd) l q n h at (subst (λ hs. Contains hs h) (fl.floods l n).last_dd m), is))
  names_accounted i (CanName.ToAcknowledge l (h, c, is)) =
      elim (delayed_after l h c) [ inl there ↦ inl (CanName.ToAcknowledge l (h, there, is)) | inr new ↦ known_as i (a.acknowledged l h i new is) ]
  names_accounted i (CanName.ToAcknowledgeNow (h, c, is)) = inl (CanName.ToAcknowledgeNow (h, fl.direct h c, is))

  asks_accounted : (l : ℕ) (q : RouterId) (i : Instance) → Asks after l q i → Asks before l q i ⊎ IsDescribed heard l q i
  asks_accounted l q i (h, c, is) =
      let (n, at, m) = list_after (λ n. n.requests) l q h c in
      inl (h, list_before (λ n. n.requests) l q n h at ((fl.floods l n).requests h m), is)

  -- what waits after is held
  lists_held : ListsAreHeld before → ListsAreHeld after
  unfolding this
  lists_held held l q i w = go (awaits_after l q i w)
    where
      as_this : i ≡ this → HoldsInstance after i
      as_this same = subst (λ i. HoldsInstance after i) (sym same) holds_this

      go : (n : NeighbourValue) × (neighbour before l q ≡ Some n) × Waits (g l n) i → HoldsInstance after i
      go (n, at, m) = elim ((fl.floods l n).old i m) [
        | inl new ↦ as_this new
        | inr old ↦ (
            let was : HoldsInstance before i = held l q i (to_before l q n i at old.0) in
            elim (holds_on i was) [
              | inl same ↦ as_this same
              | inr more ↦ elim more [
                | inl key ↦ as_this (held_agree before i this was (old.1 key) key)
                | inr there ↦ there
              ]
            ])
      ]

  stored_brings : (old new : List ℕ) → TakesItsPlace heard out old new → Brings out (instance_of new)
  stored_brings old new (TakesItsPlace.Installed r h c taken) = Brings.Takes taken
  stored_brings old new (TakesItsPlace.Issued c more) = Brings.Issues new c refl

  leaves_accounted : IsSoundState before → (l : ℕ) (q : RouterId) (i : Instance) → Awaits before l q i → WaitsOn heard before after l q i ⊎ MayLeave heard before out after l q i
  unfolding this
  leaves_accounted sound l q i w = go (waits_in (neighbour before l q) i w) (cases_Bool (same_key (key_in e.contents) i.key))
    where
      brings_again : Brings out this → i.key ≡ this.key → HoldsInstance after i → Brings out i
      brings_again brings key holds = subst (λ i. Brings out i) (held_agree after this i holds_this holds (sym key)) brings

      kept_there : (copy : List ℕ) → HasCopy before copy → contents copy ≡ e.contents → (header_of (lsa_of e)).age ≡ max_age → (lsa : List ℕ) → HasCopy after lsa → WasKept heard before lsa
      kept_there copy has same expired lsa c = elim (copy_after lsa c) [
        | inl there ↦ kept_same heard before lsa there
        | inr new ↦ subst (λ lsa. WasKept heard before lsa) new (record { old = copy; copy = has; same = same; age = inr (inr expired) })
      ]

      of_key : (n : NeighbourValue) → neighbour before l q ≡ Some n → Waits n i → i.key ≡ this.key → (copy : List ℕ) → copy_of before (key_in e.contents) ≡ Some copy → instance_of copy ≡ i → Replaces heard out e g copy → WaitsOn heard before after l q i ⊎ MayLeave heard before out after l q i
      of_key n at waits key copy is same (Replaces.ByNewer new new_is newer stored) =
          inr (MayLeave.Replaced (record {
            old = copy;
            new = new;
            copy = copy_of-has before (key_in e.contents) copy is;
            old_is = same;
            same_key = ap (λ i. i.key) new_is ∙ sym key;
            newer = newer;
            stored = stored;
          }) (brings_again (subst (λ i. Brings out i) new_is (stored_brings copy new stored)) key))
      of_key n at waits key copy is same (Replaces.ByItself one expired stays) =
          let i_is : i ≡ this = sym same ∙ same_contents copy (lsa_of e) one in
          inl (record {
            awaits = subst (λ i. Awaits after l q i) (sym i_is) (to_after l q n this at (stays l n (subst (λ i. Waits n i) i_is waits)));
            kept = λ lsa c its. kept_there copy (copy_of-has before (key_in e.contents) copy is) one expired lsa c;
          })

      its_key : i.key ≡ this.key → same_key (key_in e.contents) i.key ≡ true
      its_key key = subst (λ k. same_key (key_in e.contents) k ≡ true) (sym this_key ∙ sym key) (same_key-refl (key_in e.contents))

      of_other : (lsa : List ℕ) → same_key (key_in e.contents) i.key ≡ false → HasCopy after lsa → instance_of lsa ≡ i → WasKept heard before lsa
      of_other lsa other c its = elim (copy_after lsa c) [
        | inl there ↦ kept_same heard before lsa there
        | inr new ↦ absurd (false≢true (sym other ∙ its_key (ap (λ i. i.key) (sym (ap instance_of new ∙ its)))))
      ]

      go : (n : NeighbourValue) × (neighbour before l q ≡ Some n) × Waits n i → (same_key (key_in e.contents) i.key ≡ true) ⊎ (same_key (key_in e.contents) i.key ≡ false) → WaitsOn heard before after l q i ⊎ MayLeave heard before out after l q i
      go (n, at, waits) (inl here) =
          let key : i.key ≡ this.key = sym (same_key-eq (key_in e.contents) i.key here) ∙ sym this_key in
          let (copy, has, same) = sound.lists l q i w in
          let is : copy_of before (key_in e.contents) ≡ Some copy = ap (copy_of before) (sym this_key ∙ (sym key ∙ sym (ap (λ i. i.key) same))) ∙ has in
          of_key n at waits key copy is same (a.replaces copy is)
      go (n, at, waits) (inr other) = elim ((fl.floods l n).leaves i waits) [
        | inl stays ↦ inl (record { awaits = to_after l q n i at stays; kept = λ lsa c its. of_other lsa other c its })
        | inr key ↦ absurd (false≢true (sym other ∙ its_key key))
      ]

  listed_accounted : (l : ℕ) (q : RouterId) (i : Instance) → Brings out i → HoldsInstance after i → is_exchanging (state_of after l q) ≡ true → Awaits after l q i ⊎ HasWord heard before l q i
  unfolding this
  listed_accounted l q i brings holds up = go (exchanging_in (neighbour before l q) (g l) (sym (ap (λ o. is_exchanging (state_in o)) (neighbour_after l q)) ∙ up))
    where
      it_is : i ≡ this
      it_is = a.brings_only i brings

      reached : (n : NeighbourValue) → neighbour before l q ≡ Some n → Reached this (came l n) n (g l n) → Awaits after l q i ⊎ HasWord heard before l q i
      reached n at (Reached.IsListed lists) = inl (subst (λ i. Awaits after l q i) (sym it_is) (to_after l q n this at lists))
      reached n at (Reached.SentIt from) = inr (HasWord.Acknowledged (subst (λ i. IsAcknowledged heard l q i) (sym it_is) (subst (λ q. IsAcknowledged heard l q this) (neighbour-router before l q n at) (a.told l n from))))
      reached n at (Reached.AskedFor h j m is covers) = inr (HasWord.Requested j (h, list_before (λ n. n.requests) l q n h at m, is) (subst (λ i. Covers j i) (sym it_is) covers))

      go : (n : NeighbourValue) × (neighbour before l q ≡ Some n) × (is_exchanging (g l n).state ≡ true) → Awaits after l q i ⊎ HasWord heard before l q i
      go (n, at, above) = reached n at ((fl.floods l n).reached (subst (λ s. is_exchanging s ≡ true) (fl.floods l n).state above))

  pub Floods-accounts : IsSoundState before → Accounts heard before out after
  unfolding this
  Floods-accounts sound = record {
    same_router = fl.same_router;
    bears = a.bears;
    database = database_accounted;
    updates = λ p lsa sends c. subst (λ k. HasContents heard before out k) (sym (a.sends p lsa sends c)) a.has;
    names = names_accounted;
    named = λ p i sends lists. known_as i (a.names p i sends lists);
    holds = holds_accounted;
    asks = asks_accounted;
    leaves = leaves_accounted sound;
    listed = listed_accounted;
    numbers = a.numbers;
  }

  pub Floods-sound : IsSoundState before → IsSoundState after
  Floods-sound sound = record {
    lsas = λ lsa c. elim (copy_after lsa c) [ inl there ↦ sound.lsas lsa there | inr new ↦ subst (λ lsa. IsLsa lsa) new a.is_lsa ];
    numbers = λ lsa c own. elim (copy_after lsa c) [
      | inl there ↦ (
          let up : kept_number before (key_of lsa) ≤ℤ kept_number after (key_of lsa) = a.numbers.kept (key_of lsa) (ap (λ keys. among keys (key_of lsa)) a.none_ended) in
          let was : (instance_of lsa).number ≤ℤ kept_number before (key_of lsa) = sound.numbers lsa there (own ∙ fl.same_router) in
          omega (arith, ints))
      | inr new ↦ subst (λ lsa. (instance_of lsa).number ≤ℤ kept_number after (key_of lsa)) new (a.counted (ap (λ lsa. (key_of lsa).router) new ∙ (own ∙ fl.same_router)))
    ];
    lists = lists_held sound.lists;
  }

  -- and no neighbour changes its state
  pub Floods-none_enters : NoneEntersExchange before after
  Floods-none_enters l q up =
      let (n, at, above) = exchanging_in (neighbour before l q) (g l) (sym (ap (λ o. is_exchanging (state_in o)) (neighbour_after l q)) ∙ up) in
      ap (λ o. is_exchanging (state_in o)) at ∙ subst (λ s. is_exchanging s ≡ true) (fl.floods l n).state above
