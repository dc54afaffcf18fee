-- Direct acknowledgements, own LSAs, ages and removals.
use Rattle.std.proofs.Common.{◌≡◌, inl, inr, ◌==◌, ◌&&◌, ◌<◌, ℕ, zero, suc, Bool, true, false, cond, not, List, [], ◌∷◌, length, Option, None, Some, refl, sym, ap, subst, ◌∙◌, arith}
use Rattle.std.specs.Prelude.{◌≤ℤ◌, ◌<ℤ◌, ◌+ℤ◌, ◌+◌, ◌||◌, nat_lt, pos, if◌then◌else◌}
use Rattle.std.specs.List.{Contains, list_any, slice_get}
use Rattle.std.specs.Option.{option_map}
use Rattle.std.proofs.lemmas.Bool.{false≢true, cond-true, cond-false, and_parts}
use Rattle.std.proofs.lemmas.Bool.Decides.{Decides-int_eq}
use Rattle.std.proofs.lemmas.Int.{ints}
use Rattle.std.proofs.lemmas.Option.{none-some, same_Some}
use Rattle.ospf_base.specs.Sums.{contents}
use Rattle.ospf_base.specs.declared.ids.Instance.{Instance}
use Rattle.ospf_base.specs.declared.ids.LsaKey.{LsaKey}
use Rattle.ospf_base.specs.declared.ids.RouterId.{RouterId}
use Rattle.ospf_lsa.proofs.Aging.{IsLsa-age}
use Rattle.ospf_lsa.specs.Header.{header_of}
use Rattle.ospf_lsa.specs.Lsa.{IsLsa, key_of, instance_of}
use Rattle.ospf_lsa.specs.Recency.{recency}
use Rattle.ospf_lsa.specs.declared.recency.Recency.TheVariants.{Newer}
use Rattle.ospf_lsa.specs.declared.header.LsaHeader.{LsaHeader}
use Rattle.ospf_lsdb.specs.Database.{Entry, lsa_of, key_in, aged, instance_at}
use Rattle.ospf_lsdb.proofs.MapLaws.{ages}
use Rattle.ospf_packet.specs.Meaning.{Meaning}
use Rattle.ospf_neighbour.specs.Laws.{Waits}
use Rattle.ospf_neighbour.specs.Lists.{is_listed, is_of_instance}
use Rattle.ospf_base.specs.Instances.{same_instance}
use Rattle.ospf_neighbour.specs.Machine.{is_exchanging}
use Rattle.ospf_neighbour.specs.Neighbour.{NeighbourValue}
use Rattle.ospf_neighbour.specs.Neighbours.{neighbour_of}
use Rattle.ospf_base.proofs.SameKeys.{same_instance-refl}
use Rattle.ospf_flood.specs.Offers.{flooded, instance_with}
use Rattle.ospf_area.specs.Updates.Acks.{direct_out}
use Rattle.ospf_area.specs.Sending.{context_of}
use Rattle.ospf_area.specs.Outputs.{OutputsValue, SentValue, no_outputs, sends, AreReadAsSent}
use Rattle.ospf_area.specs.State.{AreaValue, LinkValue, neighbour, database_entry, copy_of, kept_number, some_link_loading, Awaits, WaitsIn, state_in}
use Rattle.ospf_area.proofs.Words.{copy_in, neighbours_in, flooded_link}
use Rattle.ospf_area.specs.declared.flooding.PacketSource.{PacketSource}
use Rattle.ospf_area.specs.Acting.{Becomes}
use Rattle.ospf_router.specs.AreaStep.Headers.{IsOfInstance, Lists}
use Rattle.ospf_router.specs.AreaStep.Packets.{Received, lsas_of, headers_in_body}
use Rattle.ospf_router.specs.AreaStep.Parts.{IssuePart, ExpiryPart, AgesPart, RemovalPart, at_max_age, leaves_if}
use Rattle.ospf_area.specs.Updates.Removal.{lowest_number}
use Rattle.ospf_area.proofs.Updates.Words.{some_awaits, is_last}
use Rattle.ospf_area.specs.Numbers.{is_own}
use Rattle.ospf_router.specs.AreaStep.Words.{CanName, HoldsInstance, HasCopy, Brings, IsSoundState, ListsAreHeld}
use Rattle.ospf_lsdb.specs.Moments.{among}
use Rattle.ospf_flood.specs.Rules.{max_sequence_number}
use Rattle.ospf_router.specs.AreaStep.Accounts.{HasContents, HasLargest, TakesItsPlace, Sends, WasHeld, WasKept, Numbers, NoneEntersExchange}
use Rattle.ospf_router.proofs.AreaStep.Accountable.{IsAccountable, Adjusts-accountable, sent_packet}
use Rattle.ospf_router.proofs.AreaStep.SentFacts.{direct-packets, IsUpdateOf, flooding-packets}
use Rattle.ospf_router.proofs.AreaStep.FloodingAccounts as flooding
use Rattle.ospf_router.proofs.AreaStep.FloodingAccounts.{FloodsTo, IsFlooded, IsAccounted, Replaces}
use Rattle.ospf_router.proofs.AreaStep.StateFacts.{Contains-nil, Contains-map_cases, Contains-from_slice_get, find-some, greater_is_newer, header_is_of, header_names, same_contents, copy_of-has, copy_of-key, entry_of-key, key_of-lsa_of, list_in, delayed_in, AnswersAll, ends_run_if}
use Rattle.ospf_router.proofs.AreaStep.OfferFacts.{floods_to, stays_itself}
use Rattle.ospf_router.proofs.AreaStep.QuietAccounts.{brings_none, kept_same, none_ended, Numbers-none_issued, Adjusts}
use Rattle.ospf_router.specs.AreaStep.Links.{IsKnownPacket}
use Rattle.ospf_router.proofs.AreaStep.MeetAccounts.{sends_known, sends_nothing}
use Rattle.ospf_router.proofs.AreaStep.ShrinkAccounts.{ShrinkBy, Shrinks-accountable, same-shrinks, map-id, map_from-id}
use Rattle.ospf_router.proofs.AreaStep.StoreAccounts.{Stores-accountable}
use Rattle.ospf_base.specs.Constants.{max_age}
use Rattle.ospf_base.specs.Keys.{same_key}

one_of : {X : Type 0} (x y : X) → Contains (x ∷ []) y → y ≡ x
one_of x y (zero, within, is) = sym is
one_of x y (suc k, within, is) = absurd (omega arith)

-- ---- direct acknowledgements

pub DirectPart-accountable : (heard : Option Received) (f : PacketSource) (before : AreaValue) (out : OutputsValue) (after : AreaValue) → AreReadAsSent out.sent → Becomes (record before { direct = [] }) (sends (direct_out f before)) out after → IsAccountable heard before out after
DirectPart-accountable heard f before out after read d =
    subst (λ o. IsAccountable heard before o after) (sym d.outputs)
    (subst (λ s. IsAccountable heard before (sends (direct_out f before)) s) (sym d.state)
    (Shrinks-accountable heard before (sends (direct_out f before)) (record before { direct = [] }) (λ l link. link) (λ l n. n) quiet
    (sends_known before (direct_out f before) (subst (λ o. AreReadAsSent o.sent) d.outputs read) known)))
  where
    quiet : ShrinkBy heard before (sends (direct_out f before)) (λ l link. link) (λ l n. n) (record before { direct = [] })
    quiet = record {
      links = map_from-id 0 before.links;
      same_router = refl;
      database = λ key. refl;
      numbering = λ key. refl;
      direct = λ h c. absurd (Contains-nil h c);
      each = λ l link. map-id link.neighbours;
      waiting = λ l link h c. inl c;
      shrinks = λ l n. same-shrinks heard l n;
    }

    known : (x : SentValue) → Contains (direct_out f before) x → IsKnownPacket before x.packet
    known x c =
        let a = direct-packets (context_of before) f before.direct (slice_get before.links f.link) x c in
        record {
          router = ap (λ m. m.router) a.packet;
          lsas = λ lsa m. absurd (Contains-nil lsa (subst (λ m. Contains (lsas_of m.body) lsa) a.packet m));
          names = λ i lists. let (h, m, is) = lists in CanName.ToAcknowledgeNow (h, a.within h (subst (λ m. Contains (headers_in_body m.body) h) a.packet m), is);
        }

-- ---- an own LSA is issued

pub IssuePart-accountable : (heard : Option Received) (lsa : List ℕ) (before : AreaValue) (out : OutputsValue) (after : AreaValue) → IsSoundState before → AreReadAsSent out.sent → IssuePart lsa before out after → IsAccountable heard before out after
IssuePart-accountable heard lsa before out after sound read issue =
    Stores-accountable heard lsa None false before out after
    (record { database = issue.database; links = issue.links; same_router = issue.same_router; same_direct = issue.same_direct })
    issue.is_lsa newer (λ copy is. TakesItsPlace.Issued in_issued (more copy is)) brings only (HasContents.Issued lsa in_issued refl) (λ g is. absurd (none-some g is)) issue.sent read numbers (λ own. issue.known) issue.ended
  where
    -- the copy's number is at most the kept one
    more : (copy : List ℕ) → copy_of before (key_of lsa) ≡ Some copy → (instance_of copy).number <ℤ (instance_of lsa).number
    more copy is =
        let key : key_of copy ≡ key_of lsa = copy_of-key before (key_of lsa) copy is in
        let upto : (instance_of copy).number ≤ℤ kept_number before (key_of lsa) = subst (λ k. (instance_of copy).number ≤ℤ kept_number before k) key (sound.numbers copy (copy_of-has before (key_of lsa) copy is) (ap (λ k. k.router) key ∙ issue.own)) in
        let next : (instance_of lsa).number ≡ kept_number before (key_of lsa) +ℤ pos 1 = issue.number in
        omega (arith, ints)

    newer : (copy : List ℕ) → copy_of before (key_of lsa) ≡ Some copy → recency (header_of lsa) (header_of copy) ≡ Newer
    newer copy is = greater_is_newer (header_of lsa) (header_of copy) (more copy is)

    in_issued : Contains out.issued lsa
    in_issued = subst (λ lsas. Contains lsas lsa) (sym issue.issued) (0, omega arith, refl)

    brings : Brings out (instance_of lsa)
    brings = Brings.Issues lsa in_issued refl

    the_one : (one : List ℕ) → Contains out.issued one → one ≡ lsa
    the_one one c = one_of lsa one (subst (λ lsas. Contains lsas one) issue.issued c)

    only : (i : Instance) → Brings out i → i ≡ instance_of lsa
    only i (Brings.Takes c) = absurd (Contains-nil i (subst (λ is. Contains is i) issue.taken c))
    only i (Brings.Issues one c e) = sym e ∙ ap instance_of (the_one one c)

    alone : (j : ℕ) → j < length out.issued → j ≡ 0
    alone j within = let one : length out.issued ≡ 1 = ap length issue.issued in omega arith

    numbers : Numbers heard before out after
    numbers = record {
      own = λ one c. subst (λ one. (key_of one).router ≡ before.router) (sym (the_one one c)) issue.own;
      above = λ one c. subst (λ one. kept_number before (key_of one) <ℤ (instance_of one).number) (sym (the_one one c)) (let next : (instance_of lsa).number ≡ kept_number before (key_of lsa) +ℤ pos 1 = issue.number in omega (arith, ints));
      rising = λ i j d lt within. absurd (let here : j ≡ 0 = alone j within in omega arith);
      kept = λ key goes_on. issue.kept key;
      known = λ one c goes_on. subst (λ one. (instance_of one).number ≤ℤ kept_number after (key_of one)) (sym (the_one one c)) issue.known;
      again = λ key ends. absurd (none_ended out key issue.ended ends);
      ends = λ key ends. absurd (none_ended out key issue.ended ends);
    }

-- ---- a copy comes to MaxAge

module _ (heard : Option Received) (key : LsaKey) (copy : Entry) (before : AreaValue) (out : OutputsValue) (after : AreaValue) (sound : IsSoundState before) (read : AreReadAsSent out.sent) (x : ExpiryPart key copy before out after) where
  e : Entry
  e = at_max_age copy

  has_copy : HasCopy before (lsa_of copy)
  has_copy = copy_of-has before key (lsa_of copy) (ap copy_in x.at)

  its_key : key_in copy.contents ≡ key
  its_key = entry_of-key before key copy x.at

  is_lsa : IsLsa (lsa_of (at_max_age copy))
  is_lsa = IsLsa-age (lsa_of copy) _ _ (sound.lsas (lsa_of copy) has_copy)

  copy_instance : instance_of (lsa_of copy) ≡ instance_at (at_max_age copy)
  copy_instance = same_contents (lsa_of copy) (lsa_of (at_max_age copy)) refl

  whole : instance_with key (header_of (lsa_of (at_max_age copy))) ≡ instance_at (at_max_age copy)
  whole = ap (λ k. instance_with k (header_of (lsa_of (at_max_age copy)))) (sym (key_of-lsa_of (at_max_age copy) ∙ its_key))

  is_of : IsOfInstance (header_of (lsa_of (at_max_age copy))) (instance_with key (header_of (lsa_of (at_max_age copy))))
  is_of = subst (λ i. IsOfInstance (header_of (lsa_of (at_max_age copy))) i) (sym whole) (header_is_of (lsa_of (at_max_age copy)) is_lsa)

  holds : HoldsInstance before (instance_at (at_max_age copy))
  holds = (lsa_of copy, has_copy, copy_instance)

  past : ℕ → NeighbourValue → NeighbourValue
  past l n = flooded key (header_of (lsa_of (at_max_age copy))) false before.tick n

  came : ℕ → NeighbourValue → Bool
  came l n = false

  no_acks : ℕ → List LsaHeader
  no_acks l = []

  past_floods : (l : ℕ) (n : NeighbourValue) → FloodsTo (instance_at (at_max_age copy)) (HoldsInstance before (instance_at (at_max_age copy))) (came l n) n (past l n)
  unfolding came past
  past_floods l n = subst (λ i. FloodsTo i (HoldsInstance before (instance_at (at_max_age copy))) false n (flooded key (header_of (lsa_of (at_max_age copy))) false before.tick n)) whole
      (floods_to key (header_of (lsa_of (at_max_age copy))) false before.tick n is_of (HoldsInstance before (instance_at (at_max_age copy))) (λ j w same. holds))

  is_flooded : IsFlooded e came no_acks (flooded_link key (header_of (lsa_of (at_max_age copy))) None before.tick) past before after
  unfolding e came no_acks past
  is_flooded = record {
    database = λ k. x.database k ∙ ap (λ key. if same_key key k then Some (at_max_age copy) else database_entry before k) (sym its_key);
    links = x.links;
    each = λ l link. refl;
    waiting = λ l link h c. inl c;
    floods = past_floods;
    same_router = x.same_router;
    direct = λ h c. subst (λ hs. Contains hs h) x.same_direct c;
  }

  nothing : (i : Instance) → Brings out i → ⊥
  nothing i b = brings_none out i (ap (λ o. o.taken) x.outputs) (ap (λ o. o.issued) x.outputs) b

  an_update : (p : Meaning) → Sends out p → IsUpdateOf (context_of before) (lsa_of (at_max_age copy)) p
  an_update p s = subst (λ m. IsUpdateOf (context_of before) (lsa_of (at_max_age copy)) m) (sent_packet out p read s) (flooding-packets (context_of before) (lsa_of (at_max_age copy)) None before.links s.datagram (subst (λ o. Contains o.sent s.datagram) x.outputs s.sent))

  names_it : (p : Meaning) (i : Instance) → IsUpdateOf (context_of before) (lsa_of (at_max_age copy)) p → Lists (headers_in_body p.body) i → i ≡ instance_at (at_max_age copy)
  names_it p i u (h, c, is) =
      let it = one_of (header_of u.one) h (subst (λ m. Contains (headers_in_body m.body) h) u.packet c) in
      sym (header_names u.one i (subst (λ h. IsOfInstance h i) it is)) ∙ same_contents u.one (lsa_of (at_max_age copy)) u.same

  is_accounted : IsAccounted heard before out after e came no_acks past
  unfolding e came no_acks past
  is_accounted = record {
    is_lsa = is_lsa;
    replaces = λ other is. Replaces.ByItself
        (ap contents (sym (same_Some (lsa_of copy) other (sym (ap copy_in x.at) ∙ (ap (copy_of before) (sym its_key) ∙ is)))))
        refl
        (λ l n w. subst (λ i. Waits (past l n) i) whole (stays_itself key (header_of (lsa_of (at_max_age copy))) false before.tick n is_of (subst (λ i. Waits n i) (sym whole) w)));
    known = inl (CanName.InDatabase holds);
    holds = inl holds;
    has = HasContents.Held (lsa_of copy) has_copy refl;
    brings_only = λ i b. absurd (nothing i b);
    told = λ l n c. absurd (false≢true c);
    acknowledged = λ l h i c. absurd (Contains-nil h c);
    bears = λ p s. ap (λ m. m.router) (an_update p s).packet;
    sends = λ p one s c. (let u = an_update p s in ap contents (one_of u.one one (subst (λ m. Contains (lsas_of m.body) one) u.packet c)) ∙ u.same);
    names = λ p i s lists. names_it p i (an_update p s) lists;
    numbers = Numbers-none_issued heard before out after (ap (λ o. o.issued) x.outputs)
        (λ k goes_on. subst (λ n. kept_number before k ≤ℤ n) (sym (x.numbering k)) (omega (arith, ints)))
        (λ k ends. absurd (none_ended out k (ap (λ o. o.ended) x.outputs) ends))
        (λ k ends. absurd (none_ended out k (ap (λ o. o.ended) x.outputs) ends));
    counted = λ own. subst (λ i. i.key.router ≡ before.router → i.number ≤ℤ kept_number after i.key) copy_instance (λ own. subst (λ n. (instance_of (lsa_of copy)).number ≤ℤ n) (sym (x.numbering (key_of (lsa_of copy)))) (sound.numbers (lsa_of copy) has_copy own)) own;
    none_ended = ap (λ o. o.ended) x.outputs;
  }

  pub ExpiryPart-accountable : IsAccountable heard before out after
  ExpiryPart-accountable = record {
    accounts = flooding.Floods-accounts heard before out after e came no_acks _ past is_flooded is_accounted;
    sound = flooding.Floods-sound heard before out after e came no_acks _ past is_flooded is_accounted;
    none_enters = flooding.Floods-none_enters heard before out after e came no_acks _ past is_flooded is_accounted;
    none_ended = ap (λ o. o.ended) x.outputs;
  }

-- ---- only the database changes

module _ (heard : Option Received) (before : AreaValue) (out : OutputsValue) (after : AreaValue) (same_links : after.links ≡ before.links) (same_router : after.router ≡ before.router) (same_direct : after.direct ≡ before.direct) (none_sent : out.sent ≡ []) (none_taken : out.taken ≡ []) (none_issued : out.issued ≡ []) (copies : (lsa : List ℕ) → HasCopy after lsa → WasKept heard before lsa) (stays : ListsAreHeld before → ListsAreHeld after) (kept : (key : LsaKey) → among out.ended key ≡ false → kept_number after key ≡ kept_number before key) (again : (key : LsaKey) → among out.ended key ≡ true → kept_number after key ≡ lowest_number) (gone : (key : LsaKey) → among out.ended key ≡ true → copy_of after key ≡ None) (ends : (key : LsaKey) → among out.ended key ≡ true → HasLargest heard before out) where
  neighbour-same : (l : ℕ) (q : RouterId) → neighbour after l q ≡ neighbour before l q
  neighbour-same l q = ap (λ ls. neighbour_of (neighbours_in (slice_get ls l)) q) same_links

  list-same : {A : Type 0} (list : NeighbourValue → List A) (l : ℕ) (q : RouterId) (y : A) → Contains (list_in list (neighbour after l q)) y → Contains (list_in list (neighbour before l q)) y
  list-same list l q y c = subst (λ o. Contains (list_in list o) y) (neighbour-same l q) c

  not_sent : (p : Meaning) → Sends out p → ⊥
  not_sent p s = Contains-nil s.datagram (subst (λ ds. Contains ds s.datagram) none_sent s.sent)

  names-same : (i : Instance) → CanName after i → CanName before i
  names-same i (CanName.InDatabase (lsa, c, is)) = let was = copies lsa c in CanName.InDatabase (was.old, was.copy, same_contents was.old lsa was.same ∙ is)
  names-same i (CanName.OnRetransmissionList l q w) = CanName.OnRetransmissionList l q (subst (λ o. WaitsIn o i) (neighbour-same l q) w)
  names-same i (CanName.OnSummaryList l q (h, c, is)) = CanName.OnSummaryList l q (h, list-same (λ n. n.summary) l q h c, is)
  names-same i (CanName.InLastDd l q (h, c, is)) = CanName.InLastDd l q (h, list-same (λ n. n.last_dd) l q h c, is)
  names-same i (CanName.ToAcknowledge l lists) = CanName.ToAcknowledge l (subst (λ ls. Lists (delayed_in (slice_get ls l)) i) same_links lists)
  names-same i (CanName.ToAcknowledgeNow lists) = CanName.ToAcknowledgeNow (subst (λ hs. Lists hs i) same_direct lists)

  pub OnlyDatabase-adjusts : Adjusts heard before out after
  OnlyDatabase-adjusts = record {
    same_router = same_router;
    bears = λ p s. absurd (not_sent p s);
    copies = copies;
    updates = λ p lsa s c. absurd (not_sent p s);
    names = λ i n. inl (names-same i n);
    named = λ p i s c. absurd (not_sent p s);
    asks = λ l q i lists. let (h, c, is) = lists in inl (h, list-same (λ n. n.requests) l q h c, is);
    leaves = λ l q i w. inl (subst (λ o. WaitsIn o i) (sym (neighbour-same l q)) w);
    lists = stays;
    unheld = λ i b. absurd (brings_none out i none_taken none_issued b);
    issues_none = none_issued;
    kept = kept;
    again = again;
    gone = gone;
    ends = ends;
  }

-- ---- ages

aged_same : (e : Entry) → (aged e).contents ≡ e.contents
unfolding aged
aged_same e = go (nat_lt e.age max_age)
  where
    go : (b : Bool) → (cond b (record e { age = e.age + 1 }) e).contents ≡ e.contents
    go true = refl
    go false = refl

aged_contents : (o : Option Entry) (e : Entry) → option_map aged o ≡ Some e → (was : Entry) × (o ≡ Some was) × (was.contents ≡ e.contents)
aged_contents None e is = absurd (none-some e is)
aged_contents (Some was) e is = (was, refl, sym (aged_same was) ∙ ap (λ e. e.contents) (same_Some (aged was) e is))

-- a copy after is one before at another age
copies_older : (before after : AreaValue) → ((key : LsaKey) → database_entry after key ≡ option_map aged (database_entry before key)) → (lsa : List ℕ) → HasCopy after lsa → WasHeld before (contents lsa)
copies_older before after database lsa c = go (database_entry after (key_of lsa)) refl c
  where
    go : (o : Option Entry) → database_entry after (key_of lsa) ≡ o → copy_in o ≡ Some lsa → WasHeld before (contents lsa)
    go None at is = absurd (none-some lsa is)
    go (Some e) at is =
        let (was, there, same) = aged_contents (database_entry before (key_of lsa)) e (sym (database (key_of lsa)) ∙ at) in
        record { lsa = lsa_of was; copy = copy_of-has before (key_of lsa) (lsa_of was) (ap copy_in there); same = same ∙ ap contents (same_Some (lsa_of e) lsa is) }

still_held : (before after : AreaValue) → ((key : LsaKey) → database_entry after key ≡ option_map aged (database_entry before key)) → (i : Instance) → HoldsInstance before i → HoldsInstance after i
still_held before after database i (lsa, c, is) = go (database_entry before (key_of lsa)) refl c
  where
    go : (o : Option Entry) → database_entry before (key_of lsa) ≡ o → copy_in o ≡ Some lsa → HoldsInstance after i
    go None at is' = absurd (none-some lsa is')
    go (Some e) at is' =
        let now : database_entry after (key_of lsa) ≡ Some (aged e) = database (key_of lsa) ∙ ap (option_map aged) at in (
          lsa_of (aged e),
          copy_of-has after (key_of lsa) (lsa_of (aged e)) (ap copy_in now),
          same_contents (lsa_of (aged e)) (lsa_of e) (aged_same e) ∙ (ap instance_of (same_Some (lsa_of e) lsa is') ∙ is),
        )

-- they rise where no packet was heard
pub AgesPart-accountable : (heard : Option Received) (before : AreaValue) (out : OutputsValue) (after : AreaValue) → heard ≡ None → AgesPart before out after → IsAccountable heard before out after
AgesPart-accountable heard before out after silent a =
    Adjusts-accountable heard before out after
    (OnlyDatabase-adjusts heard before out after (ap (λ s. s.links) a.rest) (ap (λ s. s.router) a.rest) (ap (λ s. s.direct) a.rest) (ap (λ o. o.sent) a.outputs) (ap (λ o. o.taken) a.outputs) (ap (λ o. o.issued) a.outputs)
    (λ lsa c. let was = copies_older before after entries lsa c in record { old = was.lsa; copy = was.copy; same = was.same; age = inr (inl silent) })
    (λ held l q i w. still_held before after entries i (held l q i (subst (λ o. WaitsIn o i) (neighbours_same l q) w)))
    (λ key goes_on. ap (λ s. kept_number s key) a.rest)
    (λ key ends. absurd (none_ended out key (ap (λ o. o.ended) a.outputs) ends))
    (λ key ends. absurd (none_ended out key (ap (λ o. o.ended) a.outputs) ends))
    (λ key ends. absurd (none_ended out key (ap (λ o. o.ended) a.outputs) ends)))
    (λ l q up. ap (λ o. is_exchanging (state_in o)) (sym (neighbours_same l q)) ∙ up)
    (ap (λ o. o.ended) a.outputs)
  where
    entries : (key : LsaKey) → database_entry after key ≡ option_map aged (database_entry before key)
    entries key = ages before.database after.database a.database key

    neighbours_same : (l : ℕ) (q : RouterId) → neighbour after l q ≡ neighbour before l q
    neighbours_same l q = ap (λ ls. neighbour_of (neighbours_in (slice_get ls l)) q) (ap (λ s. s.links) a.rest)

-- ---- what was to be answered

pub AnswersAll-accountable : (heard : Option Received) (before : AreaValue) (out : OutputsValue) (after : AreaValue) → AnswersAll before out after → IsAccountable heard before out after
AnswersAll-accountable heard before out after a =
    subst (λ o. IsAccountable heard before o after) (sym a.outputs)
    (subst (λ s. IsAccountable heard before no_outputs s) (sym a.state)
    (Shrinks-accountable heard before no_outputs (record before { heard = [] }) (λ l link. link) (λ l n. n) same (sends_nothing before)))
  where
    same : ShrinkBy heard before no_outputs (λ l link. link) (λ l n. n) (record before { heard = [] })
    same = record {
      links = map_from-id 0 before.links;
      same_router = refl;
      database = λ key. refl;
      numbering = λ key. refl;
      direct = λ h c. inl c;
      each = λ l link. map-id link.neighbours;
      waiting = λ l link h c. inl c;
      shrinks = λ l n. same-shrinks heard l n;
    }

-- ---- removals

any_holds : {X : Type 0} (p : X → Bool) (xs : List X) (x : X) → Contains xs x → p x ≡ true → list_any p xs ≡ true
any_holds p [] x (k, within, is) holds = absurd (omega arith)
any_holds p (y ∷ xs) x (zero, within, is) holds = or_first (p y) (list_any p xs) (ap p is ∙ holds)
  where
    or_first : (a b : Bool) → a ≡ true → a || b ≡ true
    or_first true b e = refl
    or_first false b e = absurd (false≢true e)
any_holds p (y ∷ xs) x (suc k, within, is) holds = or_second (p y) (list_any p xs) (any_holds p xs x (k, omega arith, is) holds)
  where
    or_second : (a b : Bool) → b ≡ true → a || b ≡ true
    or_second true b e = refl
    or_second false b e = e

listed_waits : (n : NeighbourValue) (i : Instance) → Waits n i → is_listed i n.retransmission ≡ true
listed_waits n i w =
    let (l, inside, is) = Contains-map_cases (λ l. l.instance) n.retransmission i w in
    any_holds (is_of_instance i) n.retransmission l inside (subst (λ j. same_instance j i ≡ true) (sym is) (same_instance-refl i))

awaits_some : (s : AreaValue) (l : ℕ) (q : RouterId) (i : Instance) → Awaits s l q i → some_awaits i s.links ≡ true
awaits_some s l q i w = go (slice_get s.links l) refl w
  where
    go : (o : Option LinkValue) → slice_get s.links l ≡ o → WaitsIn (neighbour_of (neighbours_in o) q) i → some_awaits i s.links ≡ true
    go None at w = absurd w
    go (Some link) at w = by (neighbour_of link.neighbours q) refl w
      where
        by : (n : Option NeighbourValue) → neighbour_of link.neighbours q ≡ n → WaitsIn n i → some_awaits i s.links ≡ true
        by None found w = absurd w
        by (Some n) found w =
            any_holds (λ link. list_any (λ n. is_listed i n.retransmission) link.neighbours) s.links link (Contains-from_slice_get s.links l link at)
            (any_holds (λ n. is_listed i n.retransmission) link.neighbours n (find-some (λ n. n.router.0 == q.0) link.neighbours n found).0 (listed_waits n i w))

stays_if : (s : AreaValue) (e : Entry) → some_awaits (instance_at e) s.links ≡ true → leaves_if s (Some e) ≡ false
stays_if s e waits = ap (λ b. not (some_link_loading s.links) && ((e.age == max_age) && not b)) waits ∙ go (not (some_link_loading s.links)) (e.age == max_age)
  where
    go : (a b : Bool) → a && (b && false) ≡ false
    go true true = refl
    go true false = refl
    go false b = refl

pub RemovalPart-adjusts : (heard : Option Received) (before : AreaValue) (out : OutputsValue) (after : AreaValue) → RemovalPart before out after → Adjusts heard before out after × NoneEntersExchange before after
RemovalPart-adjusts heard before out after r = (
  OnlyDatabase-adjusts heard before out after r.same_links r.same_router r.same_direct r.sent r.taken r.issued copies stays (λ key goes_on. r.numbering key ∙ cond-false _ _ _ goes_on) (λ key ends. r.numbering key ∙ cond-true _ _ _ ends) (λ key ends. ap copy_in (r.database key ∙ left key (database_entry before key) (sym (r.ended key) ∙ ends))) (λ key ends. by key (database_entry before key) refl (sym (r.ended key) ∙ ends)),
  λ l q up. ap (λ o. is_exchanging (state_in o)) (sym (neighbours_same l q)) ∙ up,
)
  where
    neighbours_same : (l : ℕ) (q : RouterId) → neighbour after l q ≡ neighbour before l q
    neighbours_same l q = ap (λ ls. neighbour_of (neighbours_in (slice_get ls l)) q) r.same_links

    copy_before : (lsa : List ℕ) → HasCopy after lsa → HasCopy before lsa
    copy_before lsa c = go (leaves_if before (database_entry before (key_of lsa))) (sym (ap copy_in (r.database (key_of lsa))) ∙ c)
      where
        go : (b : Bool) → copy_in (cond b None (database_entry before (key_of lsa))) ≡ Some lsa → HasCopy before lsa
        go true e = absurd (none-some lsa e)
        go false e = e

    copies : (lsa : List ℕ) → HasCopy after lsa → WasKept heard before lsa
    copies lsa c = kept_same heard before lsa (copy_before lsa c)

    stays : ListsAreHeld before → ListsAreHeld after
    stays held l q i w = go (held l q i waits)
      where
        waits : Awaits before l q i
        waits = subst (λ o. WaitsIn o i) (neighbours_same l q) w

        go : HoldsInstance before i → HoldsInstance after i
        go (lsa, c, is) = in_entry (database_entry before (key_of lsa)) refl c
          where
            in_entry : (o : Option Entry) → database_entry before (key_of lsa) ≡ o → copy_in o ≡ Some lsa → HoldsInstance after i
            in_entry None at e = absurd (none-some lsa e)
            in_entry (Some x) at e =
                let one : instance_at x ≡ i = ap instance_of (same_Some (lsa_of x) lsa e) ∙ is in
                let not_gone : leaves_if before (database_entry before (key_of lsa)) ≡ false = ap (leaves_if before) at ∙ stays_if before x (subst (λ i. some_awaits i before.links ≡ true) (sym one) (awaits_some before l q i waits)) in
                (lsa, ap copy_in (r.database (key_of lsa) ∙ cond-false _ _ _ not_gone) ∙ c, is)

    -- what ends a run has left
    left : (key : LsaKey) (o : Option Entry) → ends_run_if before key o ≡ true → cond (leaves_if before o) None o ≡ None
    left key None ends = absurd (false≢true ends)
    left key (Some e) ends =
        cond-true _ _ _ (and_parts (leaves_if before (Some e)) (is_own before.router key && is_last (Some e)) ends).0

    by : (key : LsaKey) (o : Option Entry) → database_entry before key ≡ o → ends_run_if before key o ≡ true → HasLargest heard before out
    by key None at ends = absurd (false≢true ends)
    by key (Some e) at ends =
        let runs_out = (and_parts (leaves_if before (Some e)) (is_own before.router key && is_last (Some e)) ends).1 in
        let largest = (and_parts (is_own before.router key) (is_last (Some e)) runs_out).1 in
        record { lsa = lsa_of e; has = HasContents.Held (lsa_of e) (copy_of-has before key (lsa_of e) (ap copy_in at)) refl; number = (Decides-int_eq (instance_at e).number max_sequence_number).0 largest }
