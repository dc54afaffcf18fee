-- What is lent of a world, what is kept of its routers, and what stands in a journal of it.
use Rattle.std.proofs.Common.{◌≡◌, ◌≢◌, ◌∙◌, Bool, true, false, cond, List, Option, None, Some, Result, Ok, Err, OnOk, ap, sym, refl, option_map, unwrap_or, Bor, subst, eqb-true}
use Rattle.std.specs.BTreeMap.{is_at}
use Rattle.std.specs.Global.{Vec}
use Rattle.std.specs.Io.KnownBytes.{Appends}
use Rattle.std.specs.Map.{lookup}
use Rattle.std.specs.Ordering.{is_eq, nat_cmp}
use Rattle.std.specs.Prelude.{IfOk, IfSome, IsErr, IsSome, if◌then◌else◌, is_some, max}
use Rattle.std.specs.declared.alloc.AllocError.{AllocError}
use Rattle.ospf_base.proofs.KeyMaps.{is_eq-nat_cmp}
use Rattle.ospf_base.specs.declared.ids.RouterId.{RouterId}
use Rattle.ospf_router.specs.Routers.{RouterValue}
use Rattle.ospf_base.specs.Events.Events.{router_in}
use Rattle.ospf_world.specs.World.{Member, Running, World, member, router_at}
use Rattle.ospf_base.specs.declared.event.event.WorldEvent.{WorldEvent}
use Rattle.ospf_base.specs.declared.event.event.WorldFault.{WorldFault}
use Rattle.ospf_world.specs.Worlds.{Lends, WorldValue}
use Rattle.ospf_files.specs.Streams.{IsBegun, IsOutputCut}
use Rattle.ospf_journal.specs.Changes.{AreChanges}
use Rattle.ospf_journal.specs.Reports.{ReportedValue, nothing_reported}
use Rattle.ospf_journal.specs.Seen.{SeenValue, seen_of}
use Rattle.ospf_journal.specs.declared.change.RouterChange.{RouterChange}
use Rattle.ospf_sim.specs.Followed.{EventsValue, FollowedRouter, FollowsEvent, JournalGoesOn, OthersStay, followed_in, followed_of, not_followed, report_of, seen_in, seen_running, ticks_then}
use Rattle.ospf_views.specs.RecordFiles.Journals.{JournalValue, entries_text, without_memory}

-- a router that is lent runs so
pub record LentRuns (w : World) (q : RouterId) (r : RouterValue) : Type 0 where
  pub x : Running
  pub runs : router_at w q ≡ Some x
  pub area : r.area ≡ Some x.state
  pub table : r.table ≡ x.table

runs_at : (w : World) (q : RouterId) (m : Member) → member w q ≡ Some m → router_at w q ≡ m.running
unfolding router_at
runs_at w q m is = rw is refl

not_at : (w : World) (q : RouterId) → member w q ≡ None → router_at w q ≡ None
unfolding router_at
not_at w q is = rw is refl

pub lent_runs : (w : World) (q : RouterId) (result : Result (Bor RouterValue) WorldFault) (x : Bor RouterValue) → Lends w q result → result ≡ Ok x → LentRuns w q x.now
lent_runs w q result x (Lends.Runs m y at ok lent) is = subst (λ (z : Bor RouterValue). LentRuns w q z.now) (let h : y ≡ x = cc in h) (record {
  x = lent.x;
  runs = runs_at w q m at ∙ lent.runs;
  area = lent.area;
  table = lent.table;
})
lent_runs w q result x (Lends.NoRouter at err) is = absurd (cc)
lent_runs w q result x (Lends.NotRunning m at none err) is = absurd (cc)

pub not_lent : (w : World) (q : RouterId) (result : Result (Bor RouterValue) WorldFault) (f : WorldFault) → Lends w q result → result ≡ Err f → router_at w q ≡ None
not_lent w q result f (Lends.Runs m y at ok lent) is = absurd (cc)
not_lent w q result f (Lends.NoRouter at err) is = not_at w q at
not_lent w q result f (Lends.NotRunning m at none err) is = runs_at w q m at ∙ none

-- and is seen so
pub lent_seen : (w : World) (q : RouterId) (r : RouterValue) → LentRuns w q r → seen_of r ≡ seen_running (router_at w q)
lent_seen w q r lent = rw (lent.area, lent.table, lent.runs) refl

-- what changed of a router that may run so, of which this is seen, with what is reported where it runs
abbrev pub Changed : SeenValue → Option Running → ReportedValue → Result (Vec RouterChange) AllocError → Type 0
Changed before x reported result = IfOk result (λ changes. AreChanges before (seen_running x) (if is_some x then reported else nothing_reported) changes.items)

pub lent_changed : (w : World) (q : RouterId) (r : RouterValue) (before : SeenValue) (reported : ReportedValue) (result : Result (Vec RouterChange) AllocError) → LentRuns w q r
    → IfOk result (λ changes. AreChanges before (seen_of r) reported changes.items) → Changed before (router_at w q) reported result
lent_changed w q r before reported result lent are =
    subst (λ (x : Option Running). Changed before x reported result) (sym lent.runs)
    (subst (λ (s : SeenValue). IfOk result (λ changes. AreChanges before s reported changes.items)) (lent_seen w q r lent ∙ ap seen_running lent.runs) are)

-- it has this area
pub lent_state : (w : World) (q : RouterId) (r : RouterValue) → LentRuns w q r → r.area ≡ option_map (λ (x : Running). x.state) (router_at w q)
lent_state w q r lent = lent.area ∙ sym (ap (option_map (λ (x : Running). x.state)) lent.runs)

-- what is kept of a router that was not written
pub put_elsewhere : (before after : List (RouterId × FollowedRouter)) (k q : RouterId) (o : Option FollowedRouter)
    → lookup (is_at (λ (j : RouterId). nat_cmp q.0 j.0)) after ≡ cond (is_eq (nat_cmp k.0 q.0)) o (lookup (is_at (λ (j : RouterId). nat_cmp q.0 j.0)) before) → q ≢ k → followed_in after q ≡ followed_in before q
put_elsewhere before after k q o at differs = go (is_eq (nat_cmp k.0 q.0)) refl
  where
    go : (b : Bool) → is_eq (nat_cmp k.0 q.0) ≡ b → followed_in after q ≡ followed_in before q
    go true same =
        let one : k.0 ≡ q.0 = eqb-true k.0 q.0 (sym (is_eq-nat_cmp k.0 q.0) ∙ same) in
        let named : k ≡ q = λ i. record { 0 = one i } in
        absurd (differs (sym named))
    go false other = ap (λ (o : Option FollowedRouter). unwrap_or o not_followed) (at ∙ ap (λ (b : Bool). cond b o (lookup (is_at (λ (j : RouterId). nat_cmp q.0 j.0)) before)) other)

module _ (w : WorldValue) (event : WorldEvent) (answer : Result (Unit {0}) WorldFault) (before after : EventsValue) (j j' : JournalValue) where
  -- what each event leaves in a journal that is written, where it is known what changed, and where it is not
  pub follows : (q : RouterId) (r : Result (Vec RouterChange) AllocError) → q ≡ router_in event → before.journal ≡ Some j → after.journal ≡ Some j' → after.coming ≡ before.coming → OthersStay event before after
      → OnOk r ((followed_of after (router_in event)).seen ≡ seen_in w (router_in event))
      → OnOk r ((followed_of after (router_in event)).ticks ≡ ticks_then event answer (followed_of before (router_in event)).ticks)
      → after.most_ticks ≡ max before.most_ticks (followed_of after (router_in event)).ticks
      → IfOk r (λ changes. AreChanges (followed_of before (router_in event)).seen (seen_in w (router_in event)) (report_of w (router_in event) answer before.coming) changes.items)
      → j'.is_json ≡ j.is_json
      → IfOk r (λ changes. j'.failure ≡ None → Appends j.contents j'.contents (entries_text j.is_json after.most_ticks q changes.items))
      → IfOk r (λ changes. IsBegun j.contents j'.contents (entries_text j.is_json after.most_ticks q changes.items))
      → (j.failure ≡ None → IfSome j'.failure (IsOutputCut j'.streams))
      → (IsErr r → j' ≡ without_memory j)
      → (IsSome j.failure → j' ≡ j)
      → FollowsEvent w event answer before after
  follows q (Ok changes) is was now coming others seen ticks most are_changes settings written begun cut unknown ended =
      FollowsEvent.Journalled j j' was now coming others (record {
        seen = seen;
        ticks = ticks;
        most = most;
        changes = changes.items;
        are_changes = are_changes;
        goes_on = subst (λ (q : RouterId). JournalGoesOn after.most_ticks q changes.items j j') is (record {
          settings = settings;
          written = written;
          begun = begun;
          cut = cut;
          ended = ended;
        });
      })
  follows q (Err e) is was now coming others seen ticks most are_changes settings written begun cut unknown ended =
      FollowsEvent.NoMemory j was (now ∙ ap (λ (j : JournalValue). Some j) (unknown refl)) coming others
