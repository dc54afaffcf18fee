-- What is below MaxAge after a step is of a key that the step took or issued, or was so before, with the same contents.
use Rattle.std.proofs.Common.{◌≡◌, ◌++◌, ◌∷◌, ◌⊎◌, inl, inr, ℕ, zero, suc, Bool, true, false, cond, List, [], Option, None, Some, option_map, refl, sym, ap, subst, ◌∙◌, arith}
use Rattle.std.specs.List.{Contains}
use Rattle.std.proofs.lemmas.List.Elements.{Contains-append_left, Contains-append_right}
use Rattle.ospf_base.proofs.SameKeys.{same_key-eq}
use Rattle.ospf_base.specs.Keys.{same_key}
use Rattle.ospf_base.specs.declared.ids.LsaKey.{LsaKey}
use Rattle.ospf_flood.specs.declared.acknowledgement.Acknowledgement.{Acknowledgement}
use Rattle.ospf_flood.specs.declared.acknowledgement.Acknowledgement.TheVariants as answer
use Rattle.ospf_flood.specs.declared.rule.LsaRule.{LsaRule}
use Rattle.ospf_flood.specs.declared.rule.LsaRule.TheVariants as rule
use Rattle.ospf_base.specs.declared.ids.Instance.{Instance}
use Rattle.ospf_lsa.specs.Lsa.{instance_of, key_of}
use Rattle.ospf_lsa.specs.declared.header.LsaHeader.{LsaHeader}
use Rattle.ospf_lsdb.specs.Database.{Entry, Held, Installs, aged, entry_from, is_fresh, key_in}
use Rattle.ospf_lsdb.proofs.EntryLemmas.{key-entry_from}
use Rattle.ospf_lsdb.proofs.MapLaws.{ages, installs}
use Rattle.ospf_area.specs.Numbers.{is_self_originated}
use Rattle.ospf_area.specs.Outputs.{OutputsValue, no_outputs, then_outputs}
use Rattle.ospf_area.specs.Standing.{acknowledging}
use Rattle.ospf_area.specs.State.{AreaValue, database_entry}
use Rattle.ospf_area.specs.declared.flooding.PacketSource.{PacketSource}
use Rattle.ospf_area.specs.Updates.Meets.{MeetsRule, heard_by, replied, rule_met}
use Rattle.ospf_area.proofs.Updates.Words.{taken_off}
use Rattle.ospf_area.proofs.Updates.PassLemmas.{passed}
use Rattle.ospf_router.specs.AreaStep.Parts.{AgesPart, ExpiryPart, IssuePart, LsaPart, RemovalPart, leaves_if}
use Rattle.ospf_router.proofs.AreaStep.StateFacts.{AnswersAll}
use Rattle.ospf_router.specs.AreaStep.Step.{AndRequests, Chain, Event, ExpiryStep, IsPart, OwnStep, Part, StepLaws, Then, Times}
use Rattle.ospf_router.specs.AreaStep.Step.Part.{HelloComes, DdComes, RequestComes, LsaComes, HeaderComes, DirectAcknowledgements, LinkChanges, Ages, Timers, Hellos, Acknowledgements, Repeats, Requests, Elections, OwnLsas, Removals}
use Rattle.ospf_router.specs.AreaStep.Words.{Brings}
use Rattle.ospf_router.specs.Touched.{TouchesKey}

-- each entry below MaxAge is of a key that is taken or issued, or stood there
-- before, with the same contents
abbrev pub KeepsBut : OutputsValue → AreaValue → AreaValue → Type 0
KeepsBut out s t = (key : LsaKey) (e : Entry) → database_entry t key ≡ Some e → is_fresh e ≡ true
    → TouchesKey out key
    ⊎ ((d : Entry) × (database_entry s key ≡ Some d) × (is_fresh d ≡ true)
    × (d.contents ≡ e.contents))

by_entries : (out : OutputsValue) (s t : AreaValue) → ((key : LsaKey) → database_entry t key ≡ database_entry s key) → KeepsBut out s t
by_entries out s t same key e at fresh = inr (e, sym (same key) ∙ at, fresh, refl)

by_database : (out : OutputsValue) (s t : AreaValue) → t.database ≡ s.database → KeepsBut out s t
by_database out s t same = by_entries out s t (λ key. ap (λ db. database_entry (record s { database = db }) key) same)

by_state : (out : OutputsValue) (s t : AreaValue) → t ≡ s → KeepsBut out s t
by_state out s t same = by_database out s t (ap (λ (x : AreaValue). x.database) same)

none_some : (e : Entry) → None ≡ Some e → ⊥
none_some e is = cc

some_same : (d e : Entry) → Some d ≡ Some e → d ≡ e
some_same d e is = cc

-- ---- outputs

first_brings : (a b : OutputsValue) (i : Instance) → Brings a i → Brings (then_outputs a b) i
first_brings a b i (Brings.Takes c) = Brings.Takes (Contains-append_left a.taken b.taken i c)
first_brings a b i (Brings.Issues lsa c e) = Brings.Issues lsa (Contains-append_left a.issued b.issued lsa c) e

next_brings : (a b : OutputsValue) (i : Instance) → Brings b i → Brings (then_outputs a b) i
next_brings a b i (Brings.Takes c) = Brings.Takes (Contains-append_right a.taken b.taken i c)
next_brings a b i (Brings.Issues lsa c e) = Brings.Issues lsa (Contains-append_right a.issued b.issued lsa c) e

-- what the last of them is
last_of : {A : Type 0} (xs : List A) (x : A) → Contains (xs ++ x ∷ []) x
last_of xs x = Contains-append_right xs (x ∷ []) x (zero, omega arith, refl)

-- ---- one after the other

module _ (out a b : OutputsValue) (both : out ≡ then_outputs a b) where
  first_touches : (key : LsaKey) → TouchesKey a key → TouchesKey out key
  first_touches key (i, brings, of) = (i, subst (λ (o : OutputsValue). Brings o i) (sym both) (first_brings a b i brings), of)

  next_touches : (key : LsaKey) → TouchesKey b key → TouchesKey out key
  next_touches key (i, brings, of) = (i, subst (λ (o : OutputsValue). Brings o i) (sym both) (next_brings a b i brings), of)

  keeps_then : (s t u : AreaValue) → KeepsBut a s t → KeepsBut b t u → KeepsBut out s u
  keeps_then s t u first next key e at fresh = elim (next key e at fresh) [
    | inl touched ↦ inl (next_touches key touched)
    | inr m ↦ elim (first key m.0 m.1 m.2) [
      | inl touched ↦ inl (first_touches key touched)
      | inr d ↦ inr (d.0, d.1, d.2, d.3 ∙ m.3)
    ]
  ]

then_keeps : (First : OutputsValue → AreaValue → Type 0) (Next : AreaValue → OutputsValue → AreaValue → Type 0) (s : AreaValue) (out : OutputsValue) (t : AreaValue)
    → ((o : OutputsValue) (m : AreaValue) → First o m → KeepsBut o s m)
    → ((m : AreaValue) (o : OutputsValue) → Next m o t → KeepsBut o m t) → Then First Next out t → KeepsBut out s t
then_keeps First Next s out t first next both =
    keeps_then out both.first_out both.next_out both.both s both.mid t (first both.first_out both.mid both.first) (next both.mid both.next_out both.next)

requests_keep : (R : AreaValue → OutputsValue → AreaValue → Type 0) (s : AreaValue) (out : OutputsValue) (t : AreaValue)
    → ((o : OutputsValue) (m : AreaValue) → R s o m → KeepsBut o s m) → AndRequests R s out t → KeepsBut out s t
requests_keep R s out t first both =
    keeps_then out both.first_out both.next_out both.both s both.mid t (first both.first_out both.mid both.first)
    (by_entries both.next_out both.mid t both.next.neighbours.database)

times_keep : (n : ℕ) (R : AreaValue → OutputsValue → AreaValue → Type 0) (s : AreaValue) (out : OutputsValue) (t : AreaValue)
    → ((a : AreaValue) (o : OutputsValue) (b : AreaValue) → R a o b → KeepsBut o a b) → Times n R s out t → KeepsBut out s t
times_keep zero R s out t each none_left = by_state out s t none_left.state
times_keep (suc n) R s out t each both =
    keeps_then out both.first_out both.next_out both.both s both.mid t (each s both.first_out both.mid both.first)
    (times_keep n R both.mid both.next_out t each both.next)

-- ---- parts

acknowledging_keeps : (a : Acknowledgement) (f : PacketSource) (h : LsaHeader) (s : AreaValue) → (acknowledging a f h s).database ≡ s.database
acknowledging_keeps answer.None f h s = refl
acknowledging_keeps answer.Delayed f h s = refl
acknowledging_keeps answer.Direct f h s = refl

replied_keeps : (o : Option (List ℕ)) (f : PacketSource) (key : LsaKey) (s : AreaValue) → (replied o f key s).database ≡ s.database
replied_keeps None f key s = refl
replied_keeps (Some lsa) f key s = refl

taken_off_keeps : (o : Option Instance) (f : PacketSource) (s : AreaValue) → (taken_off f o s).database ≡ s.database
taken_off_keeps None f s = refl
taken_off_keeps (Some i) f s = refl

heard_keeps : (key : LsaKey) (s : AreaValue) → (heard_by key s).database ≡ s.database
heard_keeps key s = by (is_self_originated s.router s.links key) refl
  where
    by : (b : Bool) → is_self_originated s.router s.links key ≡ b → (heard_by key s).database ≡ s.database
    by true own = rw own refl
    by false other = rw other refl

database_of : AreaValue → List Held
database_of s = s.database

-- an LSA takes the place of its key's, and is brought
stores_keep : (lsa : List ℕ) (tick : ℕ) (by_flooding : Bool) (out : OutputsValue) (s t : AreaValue) → Installs (entry_from lsa tick by_flooding) s.database t.database
    → Brings out (instance_of lsa) → KeepsBut out s t
stores_keep lsa tick by_flooding out s t stores brings key e at fresh = by (same_key (key_in (entry_from lsa tick by_flooding).contents) key) refl
  where
    is : database_entry t key ≡ cond (same_key (key_in (entry_from lsa tick by_flooding).contents) key) (Some (entry_from lsa tick by_flooding)) (database_entry s key)
    is = installs (entry_from lsa tick by_flooding) s.database t.database stores key

    by : (b : Bool) → same_key (key_in (entry_from lsa tick by_flooding).contents) key ≡ b
        → TouchesKey out key ⊎ ((d : Entry) × (database_entry s key ≡ Some d) × (is_fresh d ≡ true) × (d.contents ≡ e.contents))
    by true one = inl (instance_of lsa, brings, key-entry_from lsa tick by_flooding ∙ same_key-eq _ key one)
    by false two = let there : database_entry s key ≡ Some e = simp two at (sym is ∙ at) in inr (e, there, fresh, refl)

rule_keeps : (r : Option LsaRule) (f : PacketSource) (lsa : List ℕ) (s : AreaValue) (out : OutputsValue) (t : AreaValue) → MeetsRule r f lsa s no_outputs out t → KeepsBut out s t
unfolding database_of
rule_keeps None f lsa s out t is = by_state out s t is.state
rule_keeps (Some rule.AcknowledgesExpired) f lsa s out t is = by_database out s t (ap database_of is.state ∙ acknowledging_keeps _ f _ s)
rule_keeps (Some rule.TooSoon) f lsa s out t is = by_state out s t is.state
rule_keeps (Some rule.Installs) f lsa s out t is =
    let same : t.database ≡ is.mid.database = ap database_of is.state ∙ heard_keeps (key_of lsa) _ ∙ acknowledging_keeps _ f _ is.mid in
    let brings : Brings out (instance_of lsa) = Brings.Takes (subst (λ (is : List Instance). Contains is (instance_of lsa)) (sym (ap (λ (o : OutputsValue). o.taken) is.outputs)) (last_of no_outputs.taken (instance_of lsa))) in
    stores_keep lsa s.tick true out s t (subst (λ (db : List Held). Installs (entry_from lsa s.tick true) s.database db) (sym same) is.stores.database) brings
rule_keeps (Some rule.BadRequest) f lsa s out t is = by_database out s t (ap database_of is.state)
rule_keeps (Some rule.Duplicate) f lsa s out t is = by_database out s t (ap database_of is.state ∙ acknowledging_keeps _ f _ _)
rule_keeps (Some rule.Stale) f lsa s out t is = by_database out s t (ap database_of is.state ∙ replied_keeps _ f _ s)

lsa_keeps : (f : PacketSource) (lsa : List ℕ) (s : AreaValue) (out : OutputsValue) (t : AreaValue) → LsaPart f lsa s out t → KeepsBut out s t
lsa_keeps f lsa s out t (LsaPart.Meets is_lsa meets) = rule_keeps (rule_met s f lsa) f lsa s out t meets
lsa_keeps f lsa s out t (LsaPart.PassedOver other passes outputs) = by_database out s t (ap (λ (x : AreaValue). x.database) (passed s.passes_over f lsa s t passes).state)

ages_keep : (s : AreaValue) (out : OutputsValue) (t : AreaValue) → AgesPart s out t → KeepsBut out s t
unfolding aged
ages_keep s out t part key e at fresh = inr (by (database_entry s key) refl (sym (ages s.database t.database part.database key) ∙ at))
  where
    by : (o : Option Entry) → database_entry s key ≡ o → option_map aged o ≡ Some e → (d : Entry) × (database_entry s key ≡ Some d) × (is_fresh d ≡ true) × (d.contents ≡ e.contents)
    by None was is = absurd (none_some e is)
    by (Some d) was is = go (is_fresh d) refl (some_same (aged d) e is)
      where
        go : (b : Bool) → is_fresh d ≡ b → aged d ≡ e → (x : Entry) × (database_entry s key ≡ Some x) × (is_fresh x ≡ true) × (x.contents ≡ e.contents)
        go true young same = (d, was, young, (let same_contents : (aged d).contents ≡ d.contents = rw young refl in sym same_contents ∙ ap (λ (x : Entry). x.contents) same))
        go false old same = absurd (let is_d : aged d ≡ d = rw old refl in let no = ap is_fresh (sym is_d ∙ same) in cc)

expiry_keeps : (key : LsaKey) (copy : Entry) (s : AreaValue) (out : OutputsValue) (t : AreaValue) → ExpiryPart key copy s out t → KeepsBut out s t
expiry_keeps key copy s out t part k e at fresh = inr (by (same_key key k) refl)
  where
    by : (b : Bool) → same_key key k ≡ b → (d : Entry) × (database_entry s k ≡ Some d) × (is_fresh d ≡ true) × (d.contents ≡ e.contents)
    by true one = absurd (
        let here : Some (record copy { age = 3600 }) ≡ Some e = simp one at (sym (part.database k) ∙ at) in
        let no = ap is_fresh (some_same (record copy { age = 3600 }) e here) in
        cc)
    by false two = let there : database_entry s k ≡ Some e = simp two at (sym (part.database k) ∙ at) in (e, there, fresh, refl)

removal_keeps : (s : AreaValue) (out : OutputsValue) (t : AreaValue) → RemovalPart s out t → KeepsBut out s t
removal_keeps s out t part key e at fresh = inr (by (leaves_if s (database_entry s key)) refl)
  where
    by : (b : Bool) → leaves_if s (database_entry s key) ≡ b → (d : Entry) × (database_entry s key ≡ Some d) × (is_fresh d ≡ true) × (d.contents ≡ e.contents)
    by true goes = absurd (none_some e (simp goes at (sym (part.database key) ∙ at)))
    by false stays = let there : database_entry s key ≡ Some e = simp stays at (sym (part.database key) ∙ at) in (e, there, fresh, refl)

expiry_step_keeps : (s : AreaValue) (out : OutputsValue) (t : AreaValue) → ExpiryStep s out t → KeepsBut out s t
expiry_step_keeps s out t step = requests_keep (ExpiryPart step.key step.copy) s out t (expiry_keeps step.key step.copy s) step.expires

issue_keeps : (lsa : List ℕ) (s : AreaValue) (out : OutputsValue) (t : AreaValue) → IssuePart lsa s out t → KeepsBut out s t
issue_keeps lsa s out t is =
    stores_keep lsa s.tick false out s t is.database
    (Brings.Issues lsa (subst (λ (ls : List (List ℕ)). Contains ls lsa) (sym is.issued) (last_of [] lsa)) refl)

own_keeps : (s : AreaValue) (out : OutputsValue) (t : AreaValue) → OwnStep s out t → KeepsBut out s t
own_keeps s out t (OwnStep.Issue lsa is) = requests_keep (IssuePart lsa) s out t (issue_keeps lsa s) is
own_keeps s out t (OwnStep.Flush key copy is) = requests_keep (ExpiryPart key copy) s out t (expiry_keeps key copy s) is

part_keeps : (part : Part) (s : AreaValue) (out : OutputsValue) (t : AreaValue) → IsPart part s out t → KeepsBut out s t
unfolding database_of
part_keeps (HelloComes f p) s out t is = by_entries out s t is.neighbours.database
part_keeps (DdComes f p) s out t is = by_entries out s t is.database
part_keeps (RequestComes f p) s out t is = by_entries out s t is.neighbours.database
part_keeps (LsaComes f lsa) s out t is = lsa_keeps f lsa s out t is
part_keeps (HeaderComes f h) s out t is = by_database out s t (ap database_of is.state ∙ taken_off_keeps _ f s)
part_keeps (DirectAcknowledgements f) s out t is = by_database out s t (ap database_of is.state)
part_keeps (LinkChanges link up) s out t is = by_entries out s t is.neighbours.database
part_keeps Ages s out t (n, is) = then_keeps (AgesPart s) (Times n ExpiryStep) s out t (ages_keep s) (λ m o each. times_keep n ExpiryStep m o t expiry_step_keeps each) is
part_keeps Timers s out t is = by_entries out s t is.neighbours.database
part_keeps Hellos s out t is = by_entries out s t is.neighbours.database
part_keeps Acknowledgements s out t is = by_entries out s t is.neighbours.database
part_keeps Repeats s out t is = by_entries out s t is.neighbours.database
part_keeps Requests s out t is = by_entries out s t is.neighbours.database
part_keeps Elections s out t is = by_entries out s t is.neighbours.database
part_keeps OwnLsas s out t (n, is) = then_keeps (Times n OwnStep s) AnswersAll s out t (λ o m each. times_keep n OwnStep s o m own_keeps each) (λ m o all. by_database o m t (ap database_of all.state)) is
part_keeps Removals s out t is = removal_keeps s out t is

chain_keeps : (parts : List Part) (s : AreaValue) (out : OutputsValue) (t : AreaValue) → Chain parts s out t → KeepsBut out s t
chain_keeps [] s out t nothing = by_state out s t nothing.state
chain_keeps (part ∷ parts) s out t both =
    keeps_then out both.first_out both.next_out both.both s both.mid t (part_keeps part s both.first_out both.mid both.first)
    (chain_keeps parts both.mid both.next_out t both.next)

pub step_keeps : (is_dropped : Event → AreaValue → Bool) (event : Event) (before : AreaValue) (out : OutputsValue) (after : AreaValue) → StepLaws is_dropped event before out after → KeepsBut out before after
step_keeps is_dropped event before out after (StepLaws.Drops is nothing) = by_state out before after nothing.state
step_keeps is_dropped event before out after (StepLaws.Takes is read chain) = chain_keeps _ before out after chain
