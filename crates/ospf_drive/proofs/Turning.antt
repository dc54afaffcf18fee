-- One turn of a driver, from what its calls say.
use Rattle.std.proofs.Common.{◌≡◌, ◌++◌, ◌+◌, ◌<◌, ℕ, List, [], ◌∷◌, true, false, Option, None, Some, take, length, refl, ap, sym, ◌∙◌, arith}
use Rattle.std.proofs.lemmas.List.{append-nil}
use Rattle.std.specs.List.{cons_option}
use Rattle.logbook.specs.Pages.{Book}
use Rattle.ospf_fib.specs.PrefixIndex.Known.{Known, Table}
use Rattle.ospf_area.specs.Outputs.{SentValue}
use Rattle.ospf_router.specs.AreaStep.Step.{Event}
use Rattle.ospf_router.specs.Routers.{RouterValue}
use Rattle.ospf_router.specs.declared.router.Step.{Step}
use Rattle.ospf_drive.specs.Drives.{DriverGoesOn, FailsToSend, FailsToPublish, last_told}
use Rattle.ospf_drive.specs.Machines.{Rules}
use Rattle.ospf_drive.specs.Moments.{at, Done, event_of, events_of, is_heard_end, table_of}
use Rattle.ospf_drive.specs.Traffic.{Heard, Carried, heard_from, and_hears, and_sent, and_goes, tick_in}
use Rattle.ospf_drive.specs.Traffic.Carried.{Full, Ticks, Untold}
use Rattle.ospf_drive.specs.declared.wire.Arrival.{Arrival}
use Rattle.ospf_drive.specs.declared.wire.Arrival.TheVariants as arrival

-- what is no end is heard as none
pub is_end-heard : (a : Arrival) (buffer : List ℕ) → (a ≡ arrival.End → ⊥) → is_heard_end (heard_from a buffer) ≡ false
is_end-heard (arrival.Datagram link source destination length) buffer not = refl
is_end-heard arrival.Tick buffer not = refl
is_end-heard (arrival.LinkUp link) buffer not = refl
is_end-heard (arrival.LinkDown link) buffer not = refl
is_end-heard arrival.End buffer not = absurd (not refl)

-- an arrival was heard, and nothing went out
pub goes-heard : (h : Heard) (t : Carried) → and_hears h t ≡ and_goes (h ∷ []) [] t
goes-heard h (Full t) = simp append-nil
goes-heard h (Ticks n span) = let one : n + tick_in h ≡ n + (tick_in h + 0) = omega arith in ap (λ (m : ℕ). Ticks m span) one
goes-heard h Untold = refl

-- an arrival was heard, and these datagrams went out
pub goes-sent : (h : Heard) (sent : List SentValue) (t : Carried) → and_sent sent (and_hears h t) ≡ and_goes (h ∷ []) sent t
goes-sent h sent (Full t) = refl
goes-sent h sent (Ticks n span) = let one : n + tick_in h ≡ n + (tick_in h + 0) = omega arith in ap (λ (m : ℕ). Ticks m span) one
goes-sent h sent Untold = refl

-- an arrival of no event
events_of-none : (links : ℕ) (h : Heard) → event_of links h ≡ None → events_of links (h ∷ []) ≡ []
events_of-none links h e = ap (λ (o : Option Event). cons_option o []) e

-- an arrival of an event is no end
pub not_end-of : (links : ℕ) (h : Heard) (e : Event) → event_of links h ≡ Some e → is_heard_end h ≡ false
not_end-of links (Heard.Datagram link source destination length bytes) e some = refl
not_end-of links Heard.Tick e some = refl
not_end-of links (Heard.LinkUp link) e some = refl
not_end-of links (Heard.LinkDown link) e some = refl
not_end-of links Heard.End e some = cc

-- an arrival of an event
pub events_of-some : (links : ℕ) (h : Heard) (e : Event) → event_of links h ≡ Some e → events_of links (h ∷ []) ≡ e ∷ []
events_of-some links h e is = ap (λ (o : Option Event). cons_option o []) is

pub passed_over : {rules : Rules} (h : Heard) {r : RouterValue} {t t' : Carried} {f f' : ℕ} {k : Known} → is_heard_end h ≡ false → event_of r.links h ≡ None → t' ≡ and_hears h t → f' ≡ f → DriverGoesOn rules (at r t f k) (at r t' f' k) None
passed_over {rules} h {r} {t} {t'} {f} {f'} {k} not none took same = record {
  taken = h ∷ [];
  steps = [];
  no_end = (not, tt);
  events = sym (events_of-none r.links h none);
  chain = tt;
  router = refl;
  links = refl;
  traffic = took ∙ goes-heard h t;
  failed = same;
  fib = refl;
  tables = sym (append-nil k.tables);
  tells = refl;
}

pub stepped : {rules : Rules} (h : Heard) (e : Event) (g : Step) {r r' : RouterValue} {t t₁ t₂ : Carried} {f f' : ℕ} {k k' : Known} {told : Option Known} → is_heard_end h ≡ false → event_of r.links h ≡ Some e → t₁ ≡ and_hears h t → rules.steps e r g r' → r'.links ≡ r.links → t₂ ≡ and_sent g.out.sent t₁ → f' ≡ f → k'.fib ≡ k.fib → k'.tables ≡ k.tables ++ table_of (record { event = e; gives = g; after = r' }) → told ≡ last_told (table_of (record { event = e; gives = g; after = r' })) k' → DriverGoesOn rules (at r t f k) (at r' t₂ f' k') told
stepped {rules} h e g {r} {r'} {t} {t₁} {t₂} {f} {f'} {k} {k'} {told} not some took steps links sent same fib tables tells =
    let d : Done = record { event = e; gives = g; after = r' } in
    record {
      taken = h ∷ [];
      steps = d ∷ [];
      no_end = (not, tt);
      events = sym (events_of-some r.links h e some);
      chain = (steps, tt);
      router = refl;
      links = links;
      traffic = sent ∙ ap (and_sent g.out.sent) took ∙ goes-sent h g.out.sent t ∙ ap (λ s. and_goes (h ∷ []) s t) (sym (append-nil g.out.sent));
      failed = same;
      fib = fib;
      tables = tables ∙ ap (λ s. k.tables ++ s) (sym (append-nil (table_of d)));
      tells = tells ∙ ap (λ s. last_told s k') (sym (append-nil (table_of d)));
    }

pub failed_to_send : {rules : Rules} (h : Heard) (e : Event) (g : Step) (count : ℕ) {r r' : RouterValue} {t t₁ t₂ : Carried} {f f' : ℕ} {k : Known} → event_of r.links h ≡ Some e → t₁ ≡ and_hears h t → rules.steps e r g r' → count < length g.out.sent → t₂ ≡ and_sent (take count g.out.sent) t₁ → f' ≡ f + 1 → FailsToSend rules (at r t f k) (at r' t₂ f' k)
failed_to_send {rules} h e g count {r} {r'} {t} {t₁} {t₂} {f} {f'} {k} some took steps short sent more = record {
  arrival = h;
  step = record { event = e; gives = g; after = r' };
  count = count;
  event = some;
  steps = steps;
  router = refl;
  short = short;
  traffic = sent ∙ ap (and_sent (take count g.out.sent)) took ∙ goes-sent h (take count g.out.sent) t;
  failed = more;
  known = refl;
}

pub failed_to_publish : {rules : Rules} (h : Heard) (e : Event) (g : Step) {r r' : RouterValue} {t t₁ t₂ : Carried} {f f' : ℕ} {k k' : Known} → event_of r.links h ≡ Some e → t₁ ≡ and_hears h t → rules.steps e r g r' → t₂ ≡ and_sent g.out.sent t₁ → f' ≡ f → g.table_changed ≡ true → k' ≡ k → FailsToPublish rules (at r t f k) (at r' t₂ f' k')
failed_to_publish {rules} h e g {r} {r'} {t} {t₁} {t₂} {f} {f'} {k} {k'} some took steps sent same changed known = record {
  arrival = h;
  step = record { event = e; gives = g; after = r' };
  event = some;
  steps = steps;
  changed = changed;
  router = refl;
  traffic = sent ∙ ap (and_sent g.out.sent) took ∙ goes-sent h g.out.sent t;
  failed = same;
  known = known;
}

-- a step that left the table as it was
pub stepped_quietly : {rules : Rules} (h : Heard) (e : Event) (g : Step) {r r' : RouterValue} {t t₁ t₂ : Carried} {f f₁ f' : ℕ} {k : Known} → is_heard_end h ≡ false → event_of r.links h ≡ Some e → t₁ ≡ and_hears h t → rules.steps e r g r' → r'.links ≡ r.links → t₂ ≡ and_sent g.out.sent t₁ → f₁ ≡ f → f' ≡ f₁ → g.table_changed ≡ false → DriverGoesOn rules (at r t f k) (at r' t₂ f' k) None
stepped_quietly {rules} h e g {r} {r'} {t} {t₁} {t₂} {f} {f₁} {f'} {k} not some took steps links sent heard_same sent_same changed =
    let none : table_of (record { event = e; gives = g; after = r' }) ≡ [] = rw changed in
    stepped h e g not some took steps links sent (sent_same ∙ heard_same) refl
    (sym (append-nil k.tables) ∙ ap (λ s. k.tables ++ s) (sym none))
    (ap (λ s. last_told s k) (sym none))

-- a step whose table was published
pub stepped_published : {rules : Rules} (h : Heard) (e : Event) (g : Step) {r r' : RouterValue} {t t₁ t₂ : Carried} {f f₁ f' : ℕ} {k k' told : Known} {table : Table} → is_heard_end h ≡ false → event_of r.links h ≡ Some e → t₁ ≡ and_hears h t → rules.steps e r g r' → r'.links ≡ r.links → t₂ ≡ and_sent g.out.sent t₁ → f₁ ≡ f → f' ≡ f₁ → g.table_changed ≡ true → table ≡ r'.table → k'.fib ≡ k.fib → k'.tables ≡ k.tables ++ table ∷ [] → told ≡ k' → DriverGoesOn rules (at r t f k) (at r' t₂ f' k') (Some told)
stepped_published {rules} h e g {r} {r'} {t} {t₁} {t₂} {f} {f₁} {f'} {k} {k'} {told} {table} not some took steps links sent heard_same sent_same changed same_table fib tables tells =
    let one : table_of (record { event = e; gives = g; after = r' }) ≡ r'.table ∷ [] = rw changed in
    stepped h e g not some took steps links sent (sent_same ∙ heard_same) fib
    (tables ∙ ap (λ x. k.tables ++ x ∷ []) same_table ∙ ap (λ s. k.tables ++ s) (sym one))
    (ap (λ v. Some v) tells ∙ ap (λ s. last_told s k') (sym one))

-- what the writer knows, where it knows the same tables
pub same_known : (k k' : Known) → k'.fib ≡ k.fib → k'.tables ≡ k.tables → k' ≡ k
same_known k k' fib tables =
    let known : Book → List Table → Known = λ b ts. record { fib = b; tables = ts } in
    ap (λ b. known b k'.tables) fib ∙ ap (λ ts. known k.fib ts) tables
