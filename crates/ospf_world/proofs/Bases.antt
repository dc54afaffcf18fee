use Rattle.std.proofs.Common.{◌≡◌, ◌⊎◌, ◌+◌, ◌++◌, ℕ, true, false, List, [], ◌∷◌, length, Option, None, Some, Ok, refl, sym, ap, subst, inl, inr, ◌∙◌, append-nil, append_assoc, Bool}
use Rattle.std.specs.List.{slice_get}
use Rattle.std.proofs.lemmas.Option.{none-some, same_Some}
use Rattle.std.proofs.lemmas.Bool.{cases_Bool}
use Rattle.ospf_base.specs.Sums.{contents}
use Rattle.ospf_base.specs.declared.ids.LsaKey.{LsaKey}
use Rattle.ospf_base.specs.declared.ids.RouterId.{RouterId}
use Rattle.ospf_lsa.specs.Lsa.{key_of}
use Rattle.ospf_area.specs.Outputs.{OutputsValue}
use Rattle.ospf_lsdb.specs.Moments.{among}
use Rattle.ospf_router.specs.AreaStep.Step.{Event, heard_in}
use Rattle.ospf_router.proofs.AreaStep.StateFacts.{same_contents, slice_get-append_left}
use Rattle.ospf_area.specs.State.{AreaValue}
use Rattle.ospf_world.specs.World.{Comes, World, WorldEvent, Issued, Run, Running, router_at, StepsRouter, RouterBecomes, SameLogs, IsNewWorld, Happens, RunsEvents}
use Rattle.ospf_world.specs.Logs.{run_of}
use Rattle.ospf_base.specs.declared.event.event.WorldEvent.TheVariants.{Start}
use Rattle.ospf_world.specs.Sound.{IssuedAt, HasBegun, NoneLargest, BasesAreFloors}
use Rattle.ospf_world.proofs.Facts.{Facts}
use Rattle.ospf_world.proofs.FactsKept.{IsThat, which_router, WasSent, has_issued, entry_cases, new_is_own, run_goes_on}
use Rattle.ospf_world.proofs.RunsFacts.{Facts-new, Facts-kept, Runs-append, was_sent_by, run_of-started, LogGrows, LogGrows-run}

-- what the starts so far say of the runs
record Bases (is_dropped : Event → AreaValue → Bool) (start : World) (past : List WorldEvent) (w : World) : Type 0 where
  leads : RunsEvents is_dropped past start w
  running : (r : RouterId) (x : Running) → router_at w r ≡ Some x → HasBegun is_dropped start past w r x.first
  only_first : (r : RouterId) (x : Running) (key : LsaKey) → router_at w r ≡ Some x → run_of x.first x.later key ≡ x.first
  issued : BasesAreFloors is_dropped start past w

module _ (is_dropped : Event → AreaValue → Bool) (start : World) (past : List WorldEvent) (event : WorldEvent) (w w' : World) (b : Bases is_dropped start past w) (happens : Happens is_dropped event w w') where
  abbrev Begun : RouterId → Run → Type 0
  Begun r run = HasBegun is_dropped start (past ++ event ∷ []) w' r run

  further : (events : List WorldEvent) (v : World) → RunsEvents is_dropped events v w → RunsEvents is_dropped (events ++ event ∷ []) v w'
  further events v runs = Runs-append is_dropped events (event ∷ []) v w w' runs (w', happens, refl)

  -- a run that had begun has begun
  begun_before : (r : RouterId) (run : Run) → HasBegun is_dropped start past w r run → Begun r run
  begun_before r run h = record {
    earlier = h.earlier;
    later = h.later ++ event ∷ [];
    dd_start = h.dd_start;
    at = ap (λ events. events ++ event ∷ []) h.at ∙ append_assoc h.earlier (Start r h.dd_start run.base ∷ h.later) (event ∷ []);
    before = h.before;
    after = h.after;
    started = h.started;
    leads = h.leads;
    starts = h.starts;
    runs = h.runs;
    run_is = h.run_is;
    goes_on = further h.later h.after h.goes_on;
  }

  -- a run begins at this start
  begins_now : (r : RouterId) (dd : ℕ) (x : Running) → event ≡ Start r dd x.first.base → Comes is_dropped event w (Ok tt) w' → router_at w' r ≡ Some x → Begun r x.first
  begins_now r dd x is comes at = record {
    earlier = past;
    later = [];
    dd_start = dd;
    at = ap (λ event. past ++ event ∷ []) is;
    before = w;
    after = w';
    started = x;
    leads = b.leads;
    starts = subst (λ event. Comes is_dropped event w (Ok tt) w') is comes;
    runs = at;
    run_is = refl;
    goes_on = refl;
  }

  Bases-same : w' ≡ w → Bases is_dropped start (past ++ event ∷ []) w'
  Bases-same same = record {
    leads = further past start b.leads;
    running = λ r x at. begun_before r x.first (b.running r x (ap (λ w. router_at w r) (sym same) ∙ at));
    only_first = λ r x key at. b.only_first r x key (ap (λ w. router_at w r) (sym same) ∙ at);
    issued = λ k e at. begun_before _ _ (b.issued k e (subst (λ w. IssuedAt w.issued k e) same at));
  }

  -- where no log grows and router r becomes o, only o is to be looked at
  Bases-same_logs : (r : RouterId) (o : Option Running) → RouterBecomes w w' r o → SameLogs w w' → ((x : Running) → o ≡ Some x → Begun r x.first × ((key : LsaKey) → run_of x.first x.later key ≡ x.first)) → Bases is_dropped start (past ++ event ∷ []) w'
  Bases-same_logs r o becomes logs of = record {
    leads = further past start b.leads;
    running = λ q y at. run q y (which_router w w' r o q y becomes at);
    only_first = λ q y key at. only q y key (which_router w w' r o q y becomes at);
    issued = λ k e at. begun_before _ _ (b.issued k e (subst (λ issued. IssuedAt issued k e) logs.issued at));
  }
    where
      run : (q : RouterId) (y : Running) → IsThat w r o q y → Begun q y.first
      run q y (IsThat.TheOne e is) = subst (λ q. Begun q y.first) (sym e) (of y is).0
      run q y (IsThat.Another n at) = begun_before q y.first (b.running q y at)

      only : (q : RouterId) (y : Running) (key : LsaKey) → IsThat w r o q y → run_of y.first y.later key ≡ y.first
      only q y key (IsThat.TheOne e is) = (of y is).1 key
      only q y key (IsThat.Another n at) = b.only_first q y key at

  Bases-stepped : (r : RouterId) (e : Event) (x x' : Running) (out : OutputsValue) → Facts w → StepsRouter w w' r e x x' out → WasSent w (heard_in e) → NoneLargest w'.issued → Bases is_dropped start (past ++ event ∷ []) w'
  Bases-stepped r e x x' out facts step sent none = record {
    leads = further past start b.leads;
    running = λ q y at. run q y (which_router w w' r (Some x') q y step.changes at);
    only_first = λ q y key at. only q y key (which_router w w' r (Some x') q y step.changes at);
    issued = λ k entry at. begun_before _ _ (by k entry (entry_cases w w' r e x x' out facts step sent k entry at));
  }
    where
      goes_on : (key : LsaKey) → (among out.ended key ≡ true) ⊎ (among out.ended key ≡ false) → among out.ended key ≡ false
      goes_on key (inl ends) =
          let largest = step.accounts.numbers.ends key ends in
          let was = has_issued w w' r e x x' out facts step sent (contents largest.lsa) largest.has in
          absurd (none was.place was.entry was.at (ap (λ i. i.number) (same_contents was.entry.lsa largest.lsa was.is) ∙ largest.number))
      goes_on key (inr does) = does

      same_first : (key : LsaKey) → run_of x'.first x'.later key ≡ x'.first
      same_first key = run_goes_on w w' r e x x' out facts step sent key (goes_on key (cases_Bool (among out.ended key))) ∙ (b.only_first r x key step.was ∙ sym step.runs.first)

      run : (q : RouterId) (y : Running) → IsThat w r (Some x') q y → Begun q y.first
      run q y (IsThat.TheOne same is) = subst (λ y. Begun q y.first) (same_Some x' y is) (subst (λ run. Begun q run) (sym step.runs.first) (subst (λ q. Begun q x.first) (sym same) (begun_before r x.first (b.running r x step.was))))
      run q y (IsThat.Another n at) = begun_before q y.first (b.running q y at)

      only : (q : RouterId) (y : Running) (key : LsaKey) → IsThat w r (Some x') q y → run_of y.first y.later key ≡ y.first
      only q y key (IsThat.TheOne same is) = subst (λ y. run_of y.first y.later key ≡ y.first) (same_Some x' y is) (same_first key)
      only q y key (IsThat.Another n at) = b.only_first q y key at

      by : (k : ℕ) (entry : Issued) → IssuedAt w.issued k entry ⊎ ((m : ℕ) × (k ≡ length w.issued + m) × (slice_get out.issued m ≡ Some entry.lsa) × (entry.run ≡ run_of x.first x.later (key_of entry.lsa))) → HasBegun is_dropped start past w (key_of entry.lsa).router entry.run
      by k entry (inl old) = b.issued k entry old
      by k entry (inr new) =
          subst (λ run. HasBegun is_dropped start past w (key_of entry.lsa).router run) (sym (new.3 ∙ b.only_first r x (key_of entry.lsa) step.was))
          (subst (λ q. HasBegun is_dropped start past w q x.first) (sym (new_is_own w w' r e x x' out facts step sent new.0 entry.lsa new.2)) (b.running r x step.was))

Bases-kept : (is_dropped : Event → AreaValue → Bool) (start : World) (past : List WorldEvent) (event : WorldEvent) (w w' : World) → Facts w → Bases is_dropped start past w → Happens is_dropped event w w' → NoneLargest w'.issued → Bases is_dropped start (past ++ event ∷ []) w'
Bases-kept is_dropped start past event w w' facts b (result, Comes.Refused why is told same) none = Bases-same is_dropped start past event w w' b (result, Comes.Refused why is told same) same
Bases-kept is_dropped start past event w w' facts b (result, Comes.NotDone ok told wants same) none = Bases-same is_dropped start past event w w' b (result, Comes.NotDone ok told wants same) same
Bases-kept is_dropped start past event w w' facts b (result, Comes.Starts ok told r dd floor x is stopped becomes s logs) none =
    Bases-same_logs is_dropped start past event w w' b (result, comes) r (Some x) becomes logs (λ y e. subst (λ y. HasBegun is_dropped start (past ++ event ∷ []) w' r y.first × ((key : LsaKey) → run_of y.first y.later key ≡ y.first)) (same_Some x y e) (begun, λ key. run_of-started x key s.later))
  where
    comes : Comes is_dropped event w result w'
    comes = Comes.Starts ok told r dd floor x is stopped becomes s logs

    begun : HasBegun is_dropped start (past ++ event ∷ []) w' r x.first
    begun = begins_now is_dropped start past event w w' b (result, comes) r dd x (is ∙ ap (λ run. Start r dd run.base) (sym s.first)) (subst (λ result. Comes is_dropped event w result w') told comes) becomes.becomes
Bases-kept is_dropped start past event w w' facts b (result, Comes.Stops ok told r is becomes logs) none = Bases-same_logs is_dropped start past event w w' b (result, Comes.Stops ok told r is becomes logs) r None becomes logs (λ y e. absurd (none-some y e))
Bases-kept is_dropped start past event w w' facts b (result, Comes.MemoryStops ok told r e x by runs taken becomes logs) none = Bases-same_logs is_dropped start past event w w' b (result, Comes.MemoryStops ok told r e x by runs taken becomes logs) r None becomes logs (λ y e. absurd (none-some y e))
Bases-kept is_dropped start past event w w' facts b (result, Comes.Stepped ok told r e x x' out by step) none = Bases-stepped is_dropped start past event w w' b (result, Comes.Stepped ok told r e x x' out by step) r e x x' out facts step (was_sent_by w event r e by) none

NoneLargest-before : (w w' : World) → LogGrows w w' → NoneLargest w'.issued → NoneLargest w.issued
NoneLargest-before w w' grows none k e at = none k e (subst (λ issued. IssuedAt issued k e) (sym grows.grows) (slice_get-append_left w.issued grows.more k e at))

Bases-run : (is_dropped : Event → AreaValue → Bool) (start : World) (events past : List WorldEvent) (w w' : World) → Facts w → Bases is_dropped start past w → RunsEvents is_dropped events w w' → NoneLargest w'.issued → Bases is_dropped start (past ++ events) w'
Bases-run is_dropped start [] past w w' facts b same none = subst (λ events. Bases is_dropped start events w') (sym (append-nil past)) (subst (λ w. Bases is_dropped start past w) (sym same) b)
Bases-run is_dropped start (event ∷ events) past w w' facts b (mid, happens, rest) none =
    subst (λ events. Bases is_dropped start events w') (append_assoc past (event ∷ []) events)
    (Bases-run is_dropped start events (past ++ event ∷ []) mid w' (Facts-kept event w mid facts happens) (Bases-kept is_dropped start past event w mid facts b happens (NoneLargest-before mid w' (LogGrows-run is_dropped events mid w' rest) none)) rest none)

pub bases : (is_dropped : Event → AreaValue → Bool) (events : List WorldEvent) (w w' : World) → IsNewWorld w → RunsEvents is_dropped events w w' → NoneLargest w'.issued → BasesAreFloors is_dropped w events w'
bases is_dropped events w w' new run none =
    (Bases-run is_dropped w events [] w w' (Facts-new w new) (record {
      leads = refl;
      running = λ r x at. absurd (none-some x (sym (new.none_runs r) ∙ at));
      only_first = λ r x key at. absurd (none-some x (sym (new.none_runs r) ∙ at));
      issued = λ k e at. absurd (none-some e (subst (λ issued. IssuedAt issued k e) new.none_issued at));
    }) run none).issued
