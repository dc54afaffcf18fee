-- Own LSAs that are issued and flushed, with the Requests that come of them, are parts (RFC 2328, sections 12.4 and 14.1).
use Rattle.std.proofs.Common.{◌||◌, ◌&&◌, ◌≡◌, ◌≤◌, inl, inr, ◌≤ℤ◌, ◌+ℤ◌, ◌++◌, ℕ, ℤ, pos, zero, suc, Bool, true, false, cond, List, [], ◌∷◌, Option, None, Some, option_map, refl, sym, ap, subst, ◌∙◌, if◌then◌else◌, arith, append-nil}
use Rattle.std.specs.Prelude.{not}
use Rattle.std.specs.Int.{int_max}
use Rattle.std.specs.Ordering.{int_eq}
use Rattle.std.specs.List.{AllByRecursion, Contains}
use Rattle.std.proofs.lemmas.Bool.{cases_Bool, cond-true, cond-false}
use Rattle.std.proofs.lemmas.Option.{none-some, same_Some}
use Rattle.ospf_base.specs.Rising.{IsRisingBy}
use Rattle.ospf_base.specs.Constants.{max_age}
use Rattle.ospf_base.specs.Keys.{Precedes, same_key}
use Rattle.ospf_base.specs.declared.ids.LsaKey.{LsaKey}
use Rattle.ospf_base.proofs.SameKeys.{same_key-apart, same_key-eq, same_key-refl}
use Rattle.ospf_flood.specs.Rules.{max_sequence_number}
use Rattle.ospf_lsa.specs.Header.{header_of}
use Rattle.ospf_lsa.specs.Lsa.{key_of}
use Rattle.ospf_lsdb.specs.Database.{Entry, Held, Installs, IsDatabase, entry_from, expired, held_of, lsa_of}
use Rattle.ospf_lsdb.proofs.EntryLemmas.{key-entry_from}
use Rattle.ospf_area.specs.Flooding.{flooded_links, flooding_updates, goes_anywhere}
use Rattle.ospf_area.specs.Numbers.{counts, is_own}
use Rattle.ospf_area.specs.Outputs.{AreReadAsSent, OutputsValue, SentValue, sends, then_outputs}
use Rattle.ospf_area.specs.Sending.{context_of}
use Rattle.ospf_area.specs.State.{AreaValue, database_entry, kept_number, numbering_of}
use Rattle.ospf_area.proofs.Words.{kept_in}
use Rattle.ospf_area.proofs.NumberLemmas.{own_counted}
use Rattle.ospf_area.specs.Updates.Aging.{Flushes, copy_flooded, turn_out}
use Rattle.ospf_area.proofs.Updates.Words.{copy_flooded_by, copy_flood_out_by, copy_out, copy_flood_out, noted, flooded_area, store_updates}
use Rattle.ospf_router.specs.AreaStep.Neighbours.{Quiet}
use Rattle.ospf_router.specs.AreaStep.Parts.{ExpiryPart, IssuePart, at_max_age}
use Rattle.ospf_router.specs.AreaStep.Puts.{PutsOut}
use Rattle.ospf_router.specs.AreaStep.Step.{AndRequests, IsPart, OwnStep, Part, Times}
use Rattle.ospf_router.proofs.AreaStep.Accountable.{AreRead-left, AreRead-right}
use Rattle.ospf_router.proofs.AreaStep.AgingChains.{same_database}
use Rattle.ospf_router.proofs.AreaStep.Chains.{then_assoc, then_sends}
use Rattle.ospf_router.proofs.AreaStep.StateFacts.{find-some, entry_of-key, key_of-lsa_of, age_of_held, expired_entry}
use Rattle.ospf_router.proofs.AreaStep.NumberFacts.{counts-kept, counts-known}
use Rattle.ospf_router.proofs.AreaStep.PutParts.{own_end, own_more, own_none, puts_sent}
use Rattle.ospf_router.proofs.AreaStep.TurnAccounts.{turned-quiet}
use Rattle.ospf_originate.specs.Actions.{is_due, next_action, own_action}
use Rattle.ospf_originate.specs.Numbers.{issued}
use Rattle.ospf_originate.specs.Steps.{Issues, IssuesAndTurns, OwnLsas, action_of, wants}
use Rattle.ospf_originate.proofs.Words.{and_issues, ActsInTurn, makes_room, IssuesIf, due_of, due_as}
use Rattle.ospf_originate.specs.Wanted.{WantedValue, wanted_key, wanted_of}
use Rattle.ospf_originate.specs.declared.action.OwnAction.{OwnAction}
use Rattle.ospf_originate.specs.declared.action.OwnAction.TheVariants.{Leave, Flush, Issue}
use Rattle.ospf_originate.proofs.KeepLemmas.{issue_tells, made_key, made_number}
use Rattle.ospf_originate.proofs.NumberLemmas.{issued_kept}
use Rattle.ospf_originate.proofs.WantedLemmas.{wanted_own}
use Rattle.ospf_router.proofs.AreaStep.Works.{read_sent}

-- ---- outputs

abbrev issue_out : List SentValue → List ℕ → OutputsValue
issue_out ds lsa = record { sent = ds; taken = []; issued = lsa ∷ []; ended = [] }

then_issues : (out : OutputsValue) (ds : List SentValue) (lsa : List ℕ) → and_issues out ds lsa ≡ then_outputs out (issue_out ds lsa)
then_issues out ds lsa =
    ap (λ xs. record { sent = out.sent ++ ds; taken = xs; issued = out.issued ++ lsa ∷ []; ended = out.ended }) (sym (append-nil out.taken))
    ∙ ap (λ xs. record { sent = out.sent ++ ds; taken = out.taken ++ []; issued = out.issued ++ lsa ∷ []; ended = xs }) (sym (append-nil out.ended))

-- ---- an issue

module _ (w : WantedValue) (number : ℤ) (s : AreaValue) (out out1 : OutputsValue) (t : AreaValue) (x : Issues w number s out out1 t) where
  key_is : key_of x.lsa ≡ wanted_key w
  key_is = made_key number w x.lsa x.made

  number_is : (header_of x.lsa).number ≡ number
  number_is = made_number number w x.lsa x.made

  -- the numbers that are kept then
  kept_after : (k : LsaKey) → kept_number t k ≡ kept_in s.floor (numbering_of (counts (key_of x.lsa) (header_of x.lsa).number s) k)
  kept_after k =
      ap (λ (a : AreaValue). kept_number a k) (x.state ∙ ap (λ (a : AreaValue). record a { numbering = issued (wanted_key w) s.tick a.numbering }) x.stores.rest)
      ∙ issued_kept s.floor (wanted_key w) s.tick (counts (key_of x.lsa) (header_of x.lsa).number s) k

  issue_is : (wanted_key w).router ≡ s.router → number ≡ kept_number s (wanted_key w) +ℤ pos 1 → IssuePart x.lsa s (issue_out (store_updates x.lsa None s) x.lsa) t
  issue_is own next = record {
    is_lsa = x.is_lsa;
    own = ap (λ (k : LsaKey). k.router) key_is ∙ own;
    number = number_is ∙ (next ∙ ap (λ k. kept_number s k +ℤ pos 1) (sym key_is));
    database = subst (λ (a : AreaValue). Installs (entry_from x.lsa s.tick false) s.database a.database) (sym x.state) x.stores.database;
    links = ap (λ (a : AreaValue). a.links) x.state ∙ ap (λ (a : AreaValue). a.links) x.stores.rest;
    same_router = ap (λ (a : AreaValue). a.router) x.state ∙ ap (λ (a : AreaValue). a.router) x.stores.rest;
    same_direct = ap (λ (a : AreaValue). a.direct) x.state ∙ ap (λ (a : AreaValue). a.direct) x.stores.rest;
    kept = λ k. subst (λ n. kept_number s k ≤ℤ n) (sym (kept_after k)) (counts-kept (key_of x.lsa) (header_of x.lsa).number s k);
    known = subst (λ n. (header_of x.lsa).number ≤ℤ n) (sym (kept_after (key_of x.lsa))) (counts-known (key_of x.lsa) (header_of x.lsa).number s (ap (λ (k : LsaKey). k.router) key_is ∙ own));
    sent = refl;
    taken = refl;
    issued = refl;
    ended = refl;
  }

  issue_others : (k : LsaKey) → same_key (wanted_key w) k ≡ false → (held_of t.database k ≡ held_of s.database k) × (kept_number t k ≡ kept_number s k)
  issue_others k other = (
    ap (λ (a : AreaValue). held_of a.database k) x.state ∙ (x.stores.database k ∙ cond-false _ _ _ (ap (λ a. same_key a k) (sym (key-entry_from x.lsa s.tick false) ∙ key_is) ∙ other)),
    kept_after k ∙ (own_counted s.router (key_of x.lsa) k (header_of x.lsa).number s.floor s.numbering ∙ apart (is_own s.router k) (ap (λ a. same_key a k) key_is ∙ other)),
  )
    where
      apart : (b : Bool) → same_key (key_of x.lsa) k ≡ false → (if same_key (key_of x.lsa) k && b then int_max (kept_number s k) (header_of x.lsa).number else kept_number s k) ≡ kept_number s k
      apart b none = ap (λ a. if a && b then int_max (kept_number s k) (header_of x.lsa).number else kept_number s k) none

-- ---- a flush

module _ (key : LsaKey) (copy : Entry) (s : AreaValue) (out out' : OutputsValue) (t : AreaValue) (x : Flushes key s out out' t) (at : database_entry s key ≡ Some copy) (ages : (h : Held) → held_of s.database key ≡ Some h → h.entry.age ≤ max_age) where
  entries_mid : (k : LsaKey) → database_entry x.mid k ≡ (if same_key key k then Some (at_max_age copy) else database_entry s k)
  entries_mid k = ap (option_map (λ (h : Held). h.entry)) (x.database k) ∙ go (same_key key k)
    where
      now : (o : Option Held) → held_of s.database key ≡ o → option_map (λ h. h.entry) o ≡ Some copy → option_map (λ h. h.entry) (option_map expired o) ≡ Some (at_max_age copy)
      now None here e = absurd (none-some copy e)
      now (Some h) here e = ap Some (expired_entry h (ages h here) ∙ ap at_max_age (same_Some h.entry copy e))

      go : (b : Bool) → option_map (λ h. h.entry) (cond b (option_map expired (held_of s.database key)) (held_of s.database k)) ≡ cond b (Some (at_max_age copy)) (database_entry s k)
      go true = now (held_of s.database key) refl at
      go false = refl

  at_mid : database_entry x.mid key ≡ Some (at_max_age copy)
  at_mid = entries_mid key ∙ cond-true (same_key key key) _ _ (same_key-refl key)

  links_is : flooded_links (key_of (lsa_of (at_max_age copy))) (header_of (lsa_of (at_max_age copy))) None x.mid.tick x.mid.links ≡ flooded_links key (header_of (lsa_of (at_max_age copy))) None s.tick s.links
  links_is =
      ap (λ k. flooded_links k (header_of (lsa_of (at_max_age copy))) None x.mid.tick x.mid.links) (key_of-lsa_of (at_max_age copy) ∙ entry_of-key x.mid key (at_max_age copy) at_mid)
      ∙ ap (λ (m : AreaValue). flooded_links key (header_of (lsa_of (at_max_age copy))) None m.tick m.links) x.rest

  flush_is : ExpiryPart key copy s (sends (copy_flood_out key x.mid)) (copy_flooded key x.mid)
  flush_is = subst (λ o. ExpiryPart key copy s (sends (copy_flood_out_by o x.mid)) (copy_flooded_by o key x.mid)) (sym at_mid) (go (goes_anywhere (key_of (lsa_of (at_max_age copy))) (header_of (lsa_of (at_max_age copy))) None x.mid.links))
    where
      out_is : sends (flooding_updates (context_of x.mid) (lsa_of (at_max_age copy)) None x.mid.links) ≡ sends (flooding_updates (context_of s) (lsa_of (at_max_age copy)) None s.links)
      out_is = ap (λ (m : AreaValue). sends (flooding_updates (context_of m) (lsa_of (at_max_age copy)) None m.links)) x.rest

      router_is : x.mid.router ≡ s.router
      router_is = ap (λ (m : AreaValue). m.router) x.rest

      direct_is : x.mid.direct ≡ s.direct
      direct_is = ap (λ (m : AreaValue). m.direct) x.rest

      kept_is : (k : LsaKey) → kept_number x.mid k ≡ kept_number s k
      kept_is k = ap (λ (m : AreaValue). kept_number m k) x.rest

      go : (b : Bool) → ExpiryPart key copy s (sends (flooding_updates (context_of x.mid) (lsa_of (at_max_age copy)) None x.mid.links)) (noted key b (flooded_area (lsa_of (at_max_age copy)) None x.mid))
      go true = record { at = at; database = entries_mid; links = links_is; same_router = router_is; same_direct = direct_is; numbering = kept_is; outputs = out_is }
      go false = record { at = at; database = entries_mid; links = links_is; same_router = router_is; same_direct = direct_is; numbering = kept_is; outputs = out_is }

  flush_turns : AreReadAsSent (copy_out key x.mid) → AndRequests (ExpiryPart key copy) s (sends (copy_out key x.mid)) t
  flush_turns read = record {
    mid = copy_flooded key x.mid;
    first_out = sends (copy_flood_out key x.mid);
    next_out = sends (turn_out (copy_flooded key x.mid));
    first = flush_is;
    next = subst (λ t. Quiet (copy_flooded key x.mid) (sends (turn_out (copy_flooded key x.mid))) t) (sym x.sends.state)
        (turned-quiet (copy_flooded key x.mid) (AreRead-right (sends (copy_flood_out key x.mid)) (sends (turn_out (copy_flooded key x.mid))) read));
    both = refl;
  }

  flush_others : (k : LsaKey) → same_key key k ≡ false → (held_of t.database k ≡ held_of s.database k) × (kept_number t k ≡ kept_number s k)
  flush_others k other = (
    ap (λ (a : AreaValue). held_of a.database k) x.sends.state ∙ (ap (λ db. held_of db k) (same_database key x.mid) ∙ (x.database k ∙ cond-false _ _ _ other)),
    ap (λ (a : AreaValue). kept_number a k) x.sends.state ∙ flush_is.numbering k,
  )

  flush_router : t.router ≡ s.router
  flush_router = ap (λ (a : AreaValue). a.router) x.sends.state ∙ flush_is.same_router

-- ---- what an action tells

room_copy : (o : Option Entry) → makes_room o ≡ Flush → (copy : Entry) × (o ≡ Some copy)
room_copy None e = absurd cc
room_copy (Some copy) e = (copy, refl)

next_copy : (o : Option Entry) (kept : ℤ) → next_action o kept ≡ Flush → (copy : Entry) × (o ≡ Some copy)
next_copy o kept e = elim (cases_Bool (int_eq kept max_sequence_number)) [
  | inl last ↦ room_copy o (sym (cond-true _ _ _ last) ∙ e)
  | inr more ↦ (let no_flush : Issue (kept +ℤ pos 1) ≡ Flush = sym (cond-false _ _ _ more) ∙ e in absurd cc)
]

flush_copy : (w : Option WantedValue) (o : Option Entry) (heard own waited : Bool) (kept : ℤ) → own_action w o heard own waited kept ≡ Flush → (copy : Entry) × (o ≡ Some copy)
unfolding own_action
flush_copy None None heard own waited kept e = absurd cc
flush_copy None (Some copy) heard own waited kept e = (copy, refl)
flush_copy (Some w) (Some copy) heard own waited kept e = (copy, refl)
flush_copy (Some w) None heard own waited kept e = go (heard || (not waited && is_due w None)) e
  where
    go : (b : Bool) → (if b then next_action None kept else Leave) ≡ Flush → (copy : Entry) × (None ≡ Some copy)
    go true e = next_copy None kept e
    go false e = absurd cc

flush_tells : (s : AreaValue) (key : LsaKey) → action_of s key ≡ Flush → (copy : Entry) × (database_entry s key ≡ Some copy)
unfolding action_of
flush_tells s key e = flush_copy _ (database_entry s key) _ _ _ _ e

-- ---- one after the other

-- what is of a key is as it was
record IsSame (s0 s : AreaValue) (k : LsaKey) : Type 0 where
  held : held_of s.database k ≡ held_of s0.database k
  kept : kept_number s k ≡ kept_number s0 k

abbrev SomeSteps : AreaValue → OutputsValue → AreaValue → OutputsValue → Type 0
SomeSteps s out t out' = (n : ℕ) × PutsOut (λ o. Times n OwnStep s o t) out out'

one_more : (s mid t : AreaValue) (out mid_out out' : OutputsValue) → PutsOut (λ o. OwnStep s o mid) out mid_out → SomeSteps mid mid_out t out' → SomeSteps s out t out'
one_more s mid t out mid_out out' first (n, rest) = (suc n, own_more n s mid t out mid_out out' first rest)

-- an issue and the Requests that come of it
issue_puts : (w : WantedValue) (number : ℤ) (s mid : AreaValue) (out mid_out : OutputsValue) → (x : IssuesAndTurns w number s out mid_out mid) → (wanted_key w).router ≡ s.router → number ≡ kept_number s (wanted_key w) +ℤ pos 1 → AreReadAsSent mid_out.sent → PutsOut (λ o. OwnStep s o mid) out mid_out
issue_puts w number s mid out mid_out x own next read =
    let lsa = x.issues.lsa in
    let ds = store_updates lsa None s in
    let first = issue_out ds lsa in
    let turns = sends (turn_out x.mid) in
    let whole : mid_out ≡ then_outputs x.mid_out turns = x.outputs ∙ then_sends x.mid_out (turn_out x.mid) in
    record {
      own = then_outputs first turns;
      is = OwnStep.Issue lsa (record {
        mid = x.mid;
        first_out = first;
        next_out = turns;
        first = issue_is w number s out x.mid_out x.mid x.issues own next;
        next = subst (λ m. Quiet x.mid turns m) (sym x.turned) (turned-quiet x.mid (AreRead-right x.mid_out turns (subst (λ o. AreReadAsSent o.sent) whole read)));
        both = refl;
      });
      behind = whole ∙ (ap (λ o. then_outputs o turns) (x.issues.outputs ∙ then_issues out ds lsa) ∙ then_assoc out first turns);
    }

flush_puts : (key : LsaKey) (copy : Entry) (s mid : AreaValue) (out mid_out : OutputsValue) → (x : Flushes key s out mid_out mid) → database_entry s key ≡ Some copy → ((h : Held) → held_of s.database key ≡ Some h → h.entry.age ≤ max_age) → AreReadAsSent mid_out.sent → PutsOut (λ o. OwnStep s o mid) out mid_out
flush_puts key copy s mid out mid_out x at ages read =
    let sent = copy_out key x.mid in
    puts_sent (λ o. OwnStep s o mid) out mid_out sent (OwnStep.Flush key copy (flush_turns key copy s out mid_out mid x at ages (read_sent out mid_out sent x.sends.outputs read))) x.sends.outputs

-- those of these keys, from any state that is the same for them
abbrev Steps : AreaValue → List LsaKey → Type 0
Steps s0 keys = (s t : AreaValue) (out out' : OutputsValue) → s.router ≡ s0.router → ((k : LsaKey) → Contains keys k → IsSame s0 s k) → ActsInTurn (wants s0) (due_of (action_of s0) keys) s out out' t → AreReadAsSent out'.sent → SomeSteps s out t out'

all_of : {X : Type 0} (P : X → Type 0) (xs : List X) (x : X) → AllByRecursion P xs → Contains xs x → P x
all_of P [] x all (k, within, e) = absurd (omega arith)
all_of P (y ∷ xs) x all (zero, within, e) = subst P e all.0
all_of P (y ∷ xs) x all (suc k, within, e) = all_of P xs x all.1 (k, omega arith, e)

later : {X : Type 0} (y : X) (xs : List X) (x : X) → Contains xs x → Contains (y ∷ xs) x
later y xs x (k, within, e) = (suc k, omega arith, e)

module _ (s0 : AreaValue) (is : IsDatabase s0.database) (key : LsaKey) (keys : List LsaKey) (rises : AllByRecursion (λ o. Precedes key o) keys) (rec : Steps s0 keys) where
  -- what is so of the other keys stays
  stay : (s mid : AreaValue) → ((k : LsaKey) → same_key key k ≡ false → (held_of mid.database k ≡ held_of s.database k) × (kept_number mid k ≡ kept_number s k)) → ((k : LsaKey) → Contains (key ∷ keys) k → IsSame s0 s k) → (k : LsaKey) → Contains keys k → IsSame s0 mid k
  stay s mid others same k c =
      let was = same k (later key keys k c) in
      let of = others k (same_key-apart key k (all_of (λ o. Precedes key o) keys k rises c)) in
      record { held = of.0 ∙ was.held; kept = of.1 ∙ was.kept }

  read_mid : (mid t : AreaValue) (mid_out out' : OutputsValue) → SomeSteps mid mid_out t out' → AreReadAsSent out'.sent → AreReadAsSent mid_out.sent
  read_mid mid t mid_out out' (n, rest) read = AreRead-left mid_out rest.own (subst (λ o. AreReadAsSent o.sent) rest.behind read)

  wanted_is : (w : WantedValue) → wanted_of (wants s0) key ≡ Some w → (wanted_key w ≡ key) × ((wanted_key w).router ≡ s0.router)
  wanted_is w at =
      let (inside, same) = find-some (λ w. same_key (wanted_key w) key) (wants s0) w at in
      (same_key-eq (wanted_key w) key same, all_of (λ w. (wanted_key w).router ≡ s0.router) (wants s0) w (wanted_own s0.stub_router s0.router s0.links s0.stubs) inside)

  cons_steps : Steps s0 (key ∷ keys)
  cons_steps s t out out' router same acts read = by (action_of s0 key) refl acts
    where
      by : (a : OwnAction) → action_of s0 key ≡ a → ActsInTurn (wants s0) (due_as a key ++ due_of (action_of s0) keys) s out out' t → SomeSteps s out t out'
      by Leave at acts = rec s t out out' router (λ k c. same k (later key keys k c)) acts read
      by Flush at (mid, mid_out, x, rest) =
          let here = same key (0, omega arith, refl) in
          let (copy, there) = flush_tells s0 key at in
          let entry : database_entry s key ≡ Some copy = ap (option_map (λ (h : Held). h.entry)) here.held ∙ there in
          let ages : (h : Held) → held_of s.database key ≡ Some h → h.entry.age ≤ max_age = λ h found. age_of_held s0.database key h is (sym here.held ∙ found) in
          let on = rec mid t mid_out out' (flush_router key copy s out mid_out mid x entry ages ∙ router) (stay s mid (flush_others key copy s out mid_out mid x entry ages) same) rest read in
          one_more s mid t out mid_out out' (flush_puts key copy s mid out mid_out x entry ages (read_mid mid t mid_out out' on read)) on
      by (Issue number) at (mid, mid_out, acted, rest) =
          let here = same key (0, omega arith, refl) in
          let tells = issue_tells s0 key number at in
          let w = tells.value in
          let (is_key, own) = wanted_is w tells.is_wanted in
          let x : IssuesAndTurns w number s out mid_out mid = subst (λ o. IssuesIf o number s out mid_out mid) tells.is_wanted acted in
          let issue = x.issues in
          let at_mid : (k : LsaKey) → same_key (wanted_key w) k ≡ false → (held_of mid.database k ≡ held_of s.database k) × (kept_number mid k ≡ kept_number s k) =
          λ k other. let of = issue_others w number s out x.mid_out x.mid issue k other in (ap (λ (a : AreaValue). held_of a.database k) x.turned ∙ of.0, ap (λ (a : AreaValue). kept_number a k) x.turned ∙ of.1) in
          let others = subst (λ q. (k : LsaKey) → same_key q k ≡ false → (held_of mid.database k ≡ held_of s.database k) × (kept_number mid k ≡ kept_number s k)) is_key at_mid in
          let same_router : mid.router ≡ s.router = ap (λ (a : AreaValue). a.router) x.turned ∙ (ap (λ (a : AreaValue). a.router) issue.state ∙ ap (λ (a : AreaValue). a.router) issue.stores.rest) in
          let on = rec mid t mid_out out' (same_router ∙ router) (stay s mid others same) rest read in
          let next : number ≡ kept_number s (wanted_key w) +ℤ pos 1 = tells.next ∙ ap (λ n. n +ℤ pos 1) (sym here.kept ∙ ap (kept_number s) (sym is_key)) in
          one_more s mid t out mid_out out' (issue_puts w number s mid out mid_out x (own ∙ sym router) next (read_mid mid t mid_out out' on read)) on

steps : (s0 : AreaValue) → IsDatabase s0.database → (keys : List LsaKey) → IsRisingBy Precedes keys → Steps s0 keys
steps s0 is [] rises = λ s t out out' router same acts read. (
  0,
  subst (λ t. PutsOut (λ o. Times 0 OwnStep s o t) out out') (sym acts.state) (subst (λ o. PutsOut (λ o. Times 0 OwnStep s o s) out o) (sym acts.outputs) (own_none s out)),
)
steps s0 is (key ∷ keys) rises = cons_steps s0 is key keys rises.0 (steps s0 is keys rises.1)

-- all of them, and what was heard is forgotten
pub own_put : (s t : AreaValue) (out out' : OutputsValue) → IsDatabase s.database → AreReadAsSent out'.sent → OwnLsas s out out' t → PutsOut (λ o. IsPart Part.OwnLsas s o t) out out'
own_put s t out out' is read o =
    let (n, done) = steps s is o.is_due.keys o.is_due.rising s o.mid out out' refl (λ k c. record { held = refl; kept = refl }) (subst (λ ds. ActsInTurn (wants s) ds s out out' o.mid) o.is_due.is o.each) read in
    own_end n s o.mid t out out' done o.answered
