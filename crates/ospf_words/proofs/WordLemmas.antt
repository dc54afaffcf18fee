-- Texts that spell addresses.
use Rattle.std.proofs.Common.{Any, Bool, true, false, ◌≡◌, ◌⊎◌, ◌&&◌, ◌||◌, ◌∙◌, ◌+◌, ◌<◌, ◌^◌, ◌++◌, ℕ, suc, zero, List, [], ◌∷◌, Ok, Err, Result, IsErrAnd, IfErr, IfNone, IfOk, IfSome, Bor, map, take, length, drop, get_or, subst, refl, ap, ap₂, sym, Option, Some, None, Contains, option_map, unwrap_or, inl, inr, is_some, not, arith, codes, slice_index_or, string_bytes}
use Rattle.std.proofs.lemmas.List.{map-append, take_more}
use Rattle.std.proofs.lemmas.Option.{none-some}
use Rattle.std.specs.Cmp.Lexicographic.{bytes_decides}
use Rattle.std.specs.Str.{bytes_eq}
use Rattle.std.specs.declared.net.parser.AddrParseError.{AddrParseError}
use Rattle.clap.specs.Faults.{fault_of}
use Rattle.clap.specs.Kinds.{HasKind}
use Rattle.clap.specs.Words.{ReadsOne, Row, all_of, first_of, one_of, subcommand_of}
use Rattle.clap.specs.declared.error.Error.{Error}
use Rattle.ospf_base.specs.Text.{IsDottedNumber, ReadsAddress, ReadsRouterId}
use Rattle.ospf_base.specs.declared.ids.RouterId.{RouterId}
use Rattle.ospf_base.specs.declared.ids.Addr.{Addr}
use Rattle.ospf_words.specs.Job.{IsFaultOfNoValue, IsFaultOfValue, IsFaultOfWords}
use Rattle.ospf_words.specs.Unasked.{AreBothVersions, HasForever, IsAllInJson, IsFirstWrong, IsForeverIn, IsJobIfAny, IsNoAddress, IsNoJob, IsNoNumber, IsNoRouter, IsUnasked, IsUncounted, IsUnending, IsUnendingRun, IsWrongValue, LacksInRun, in_lsas, in_run}
use Rattle.ospf_words.specs.Words.{AreChoices, AreForms, HasChange, IsFailuresForm, IsFlag, IsInspectJob, IsNumber, IsNumberIfAny, IsRunWith, IsTelling, Spell, command_app, endless_app, failures_form, lsas_asked, telling_of, words_for}
use Rattle.ospf_files.specs.declared.telling.Telling.TheVariants as telling
use Rattle.ospf_harm.specs.declared.asked.FailuresForm.{FailuresForm}
use Rattle.ospf_harm.specs.declared.asked.FailuresForm.TheVariants as told
use Rattle.ospf_inspect.specs.declared.answer.Form.TheVariants as form
use Rattle.ospf_inspect.specs.declared.answer.InspectJob.{InspectJob}
use Rattle.ospf_inspect.specs.declared.answer.InspectJob.TheVariants.{Drawing, Lsas}
use Rattle.ospf_words.specs.declared.jobs.Job.{Job}
use Rattle.ospf_words.specs.declared.jobs.Job.TheVariants as job
use Rattle.ospf_words.specs.declared.jobs.JobFault.{JobFault}
use Rattle.ospf_words.specs.declared.jobs.JobFault.TheVariants as fault

abbrev pub texts_of : List (Bor (List ℕ)) → List (List ℕ)
texts_of = map (λ w. w.now)

spell_suc : (words : List (Bor (List ℕ))) (i : ℕ) (d : Bor (List ℕ)) (addresses : List Addr) (a : Addr) → i < length words
    → Spell (texts_of (take i words)) addresses → ReadsAddress (get_or words i d).now (Ok a)
    → Spell (texts_of (take (suc i) words)) (addresses ++ a ∷ [])
spell_suc [] i d addresses a below spelled reads = absurd (omega arith)
spell_suc (w ∷ words) zero d [] a below spelled reads = (reads, tt)
spell_suc (w ∷ words) zero d (b ∷ rest) a below spelled reads = absurd spelled
spell_suc (w ∷ words) (suc i) d [] a below spelled reads = absurd spelled
spell_suc (w ∷ words) (suc i) d (b ∷ rest) a below spelled reads =
    (spelled.0, spell_suc words i d rest a (omega arith) spelled.1 reads)

-- one more word, and its text
pub more_texts : {S : Type 0} (text : S → List ℕ) (words : List (Bor (List ℕ))) (i : ℕ) (d : Bor (List ℕ)) (texts : List S) (t : S) → i < length words
    → map text texts ≡ texts_of (take i words) → text t ≡ (get_or words i d).now → map text (texts ++ t ∷ []) ≡ texts_of (take (i + 1) words)
more_texts text words i d texts t below so_far is = map-append text texts (t ∷ [])
    ∙ ap₂ (λ front last. front ++ last ∷ []) so_far is
    ∙ sym (map-append (λ w. w.now) (take i words) (get_or words i d ∷ [])) ∙ ap texts_of (sym (take_more words i d below))

-- one more text, and the address that it spells
pub spell_more : (words : List (Bor (List ℕ))) (i : ℕ) (d : Bor (List ℕ)) (addresses : List Addr) (a : Addr) → i < length words
    → Spell (texts_of (take i words)) addresses → ReadsAddress (get_or words i d).now (Ok a)
    → Spell (texts_of (take (i + 1) words)) (addresses ++ a ∷ [])
spell_more words i d addresses a below spelled reads =
    let next : suc i ≡ i + 1 = omega arith in
    subst (λ n. Spell (texts_of (take n words)) (addresses ++ a ∷ [])) next (spell_suc words i d addresses a below spelled reads)

choices_suc : (words : List (Bor (List ℕ))) (i : ℕ) (d : Bor (List ℕ)) (choices : List ℕ) (n : ℕ) → i < length words
    → AreChoices (texts_of (take i words)) choices → IsNumber (get_or words i d).now n
    → AreChoices (texts_of (take (suc i) words)) (choices ++ n ∷ [])
choices_suc [] i d choices n below so_far is = absurd (omega arith)
choices_suc (w ∷ words) zero d [] n below so_far is = (is, tt)
choices_suc (w ∷ words) zero d (b ∷ rest) n below so_far is = absurd so_far
choices_suc (w ∷ words) (suc i) d [] n below so_far is = absurd so_far
choices_suc (w ∷ words) (suc i) d (b ∷ rest) n below so_far is =
    (so_far.0, choices_suc words i d rest n (omega arith) so_far.1 is)

-- one more text, and the choice that it spells
pub choice_more : (words : List (Bor (List ℕ))) (i : ℕ) (d : Bor (List ℕ)) (choices : List ℕ) (n : ℕ) → i < length words
    → AreChoices (texts_of (take i words)) choices → IsNumber (get_or words i d).now n
    → AreChoices (texts_of (take (i + 1) words)) (choices ++ n ∷ [])
choice_more words i d choices n below so_far is =
    let next : suc i ≡ i + 1 = omega arith in
    subst (λ m. AreChoices (texts_of (take m words)) (choices ++ n ∷ [])) next (choices_suc words i d choices n below so_far is)

-- a word is among the texts
pub has_word : (words : List (Bor (List ℕ))) (i : ℕ) (d : Bor (List ℕ)) → i < length words → Contains (texts_of words) (get_or words i d).now
has_word [] i d below = absurd (omega arith)
has_word (w ∷ words) zero d below = (zero, omega arith, refl)
has_word (w ∷ words) (suc i) d below = let h = has_word words i d (omega arith) in (suc h.0, omega (arith, h.1), h.2)

-- what there is is one
pub some_one : (x y : List ℕ) → Some x ≡ Some y → x ≡ y
some_one x y same = ap (λ o. unwrap_or o x) same

-- the second half is one
pub second_half : {X Y : Type 0} (o : Option (X × Y)) (x : X) (y z : Y) → o ≡ Some (x, y) → option_map (λ (p : X × Y). p.1) o ≡ Some z → y ≡ z
second_half {X} {Y} o x y z e h = ap (λ q. unwrap_or q z) (ap (option_map (λ (p : X × Y). p.1)) (sym e) ∙ h)

-- the texts of the words, or none where there are no words
texts_or_none : (words : Option (Bor (List (Bor (List ℕ))))) (none : Bor (List (Bor (List ℕ)))) → none.now ≡ []
    → texts_of (unwrap_or words none).now ≡ unwrap_or (option_map (λ w. texts_of w.now) words) []
texts_or_none (Some words) none is_empty = refl
texts_or_none None none is_empty = ap texts_of is_empty

-- the words that are found, as texts
pub words_found : (words : Option (Bor (List (Bor (List ℕ))))) (none found : Bor (List (Bor (List ℕ)))) (texts : Option (List (List ℕ))) → none.now ≡ []
    → found ≡ unwrap_or words none → option_map (λ w. texts_of w.now) words ≡ texts → texts_of found.now ≡ unwrap_or texts []
words_found words none found texts is_empty is same = ap (λ a. texts_of a.now) is ∙ texts_or_none words none is_empty ∙ ap (λ o. unwrap_or o []) same

-- where there are words there are texts of them
pub some_texts : {S : Type 0} (text : S → List ℕ) (texts : List S) (words : List (Bor (List ℕ))) → map text texts ≡ texts_of words → (words ≡ [] → ⊥) → texts ≡ [] → ⊥
some_texts text texts [] is some none = some refl
some_texts text texts (w ∷ words) is some none = let e : [] ≡ w.now ∷ texts_of words = sym (ap (map text) none) ∙ is in cc

-- and where there are no texts there are no words
pub no_names : (words : List (Bor (List ℕ))) → (words ≡ [] → ⊥) → texts_of words ≡ [] → ⊥
no_names [] some none = some refl
no_names (w ∷ words) some none = let e : w.now ∷ texts_of words ≡ [] = none in cc

pub some_words : (words : List (Bor (List ℕ))) → 0 < length words → texts_of words ≡ [] → ⊥
some_words [] some none = omega (arith, some)
some_words (w ∷ words) some none = let e : w.now ∷ texts_of words ≡ [] = none in cc

-- ---- changes

-- words that go down, that are costs, or that are drained, and their texts
pub changed : (rows : List Row) (down costs drains : List (Bor (List ℕ))) → texts_of down ≡ words_for (codes "down") rows → texts_of costs ≡ words_for (codes "cost") rows
    → texts_of drains ≡ words_for (codes "drain") rows → (down ≡ [] → ⊥) ⊎ (costs ≡ [] → ⊥) ⊎ (drains ≡ [] → ⊥) → HasChange rows
changed rows down costs drains at_down at_costs at_drains some = elim some [
  | inl h ↦ inl (λ none. no_names down h (at_down ∙ none))
  | inr (inl h) ↦ inr (inl (λ none. no_names costs h (at_costs ∙ none)))
  | inr (inr h) ↦ inr (inr (λ none. no_names drains h (at_drains ∙ none)))
]

-- and the other way round
pub changing : (rows : List Row) (down costs drains : List (Bor (List ℕ))) → texts_of down ≡ words_for (codes "down") rows → texts_of costs ≡ words_for (codes "cost") rows
    → texts_of drains ≡ words_for (codes "drain") rows → HasChange rows → (down ≡ [] → ⊥) ⊎ (costs ≡ [] → ⊥) ⊎ (drains ≡ [] → ⊥)
changing rows down costs drains at_down at_costs at_drains change = elim change [
  | inl h ↦ inl (λ none. h (sym at_down ∙ ap texts_of none))
  | inr (inl h) ↦ inr (inl (λ none. h (sym at_costs ∙ ap texts_of none)))
  | inr (inr h) ↦ inr (inr (λ none. h (sym at_drains ∙ ap texts_of none)))
]

-- ---- words that ask for no job

-- an error that is handed on, or turned into another
pub err_kept : {T E : Type 0} (r : Result T E) (R Q : E → Type 0) → IsErrAnd r R → ((e : E) → R e → Q e) → IfErr r Q
err_kept (Ok x) R Q is k = tt
err_kept (Err e) R Q is k = k e is

pub value_weaker : (P Q : List ℕ → Type 0) (f : JobFault) → ((w : List ℕ) → P w → Q w) → IsFaultOfValue P f → IsFaultOfValue Q f
value_weaker P Q (fault.Words e) k h = absurd h
value_weaker P Q (fault.Address w) k h = k (string_bytes w) h
value_weaker P Q fault.Memory k h = tt

pub value_uncounted : (words : List (List ℕ)) (f : JobFault) → fault_of command_app words ≡ [] → IsFaultOfValue (IsWrongValue (subcommand_of command_app words)) f → IsUncounted words f
value_uncounted words (fault.Words e) none h = absurd h
value_uncounted words (fault.Address w) none h = (none, h)
value_uncounted words fault.Memory none h = tt

-- the texts before a place, the one there and those after it
split_at : (words : List (Bor (List ℕ))) (i : ℕ) (d : Bor (List ℕ)) → i < length words
    → texts_of words ≡ texts_of (take i words) ++ (get_or words i d).now ∷ texts_of (drop (suc i) words)
split_at [] i d below = absurd (omega arith)
split_at (w ∷ words) zero d below = refl
split_at (w ∷ words) (suc i) d below = ap (λ ts. w.now ∷ ts) (split_at words i d (omega arith))

-- a word is no address, and those before it were read
pub first_wrong : (words : List (Bor (List ℕ))) (i : ℕ) (d : Bor (List ℕ)) (addresses : List Addr) → i < length words
    → Spell (texts_of (take i words)) addresses → (w : List ℕ)
    → ((w ≡ (get_or words i d).now) × (e : AddrParseError) × ReadsAddress (get_or words i d).now (Err e)) → IsFirstWrong (texts_of words) w
first_wrong words i d addresses below spelled w h = record {
  before = texts_of (take i words);
  after = texts_of (drop (suc i) words);
  texts_are = split_at words i d below ∙ ap (λ t. texts_of (take i words) ++ t ∷ texts_of (drop (suc i) words)) (sym h.0);
  addresses = addresses;
  spelled = spelled;
  wrong = subst IsNoAddress (sym h.0) h.2;
}

pub root_wrong : (root : List ℕ) (texts : List (List ℕ)) (w : List ℕ)
    → ((w ≡ root) × (e : AddrParseError) × ReadsRouterId root (Err e)) → IsFirstWrong (root ∷ texts) w
root_wrong root texts w h = record {
  before = [];
  after = texts;
  texts_are = ap (λ t. t ∷ texts) (sym h.0);
  addresses = [];
  spelled = tt;
  wrong = λ a is. h.2 (record { 0 = a.0 }) (subst (λ t. IsDottedNumber t a.0) h.0 is);
}

pub address_wrong : (root : List ℕ) (r : RouterId) (texts : List (List ℕ)) (w : List ℕ) → ReadsRouterId root (Ok r) → IsFirstWrong texts w
    → IsFirstWrong (root ∷ texts) w
address_wrong root r texts w reads f = record {
  before = root ∷ f.before;
  after = f.after;
  texts_are = ap (λ ts. root ∷ ts) f.texts_are;
  addresses = record { 0 = r.0 } ∷ f.addresses;
  spelled = (reads, f.spelled);
  wrong = f.wrong;
}

-- a word that is other than a text
pub not_word : (word text : List ℕ) (same : Bool) → bytes_eq word text ≡ same → same ≡ false → word ≡ text → ⊥
not_word word text same is other equal = let found = (bytes_decides word text).1 equal in absurd (let wrong : true ≡ false = sym found ∙ is ∙ other in cc)

-- the first wrong word is the first wrong value of `table`
pub wrong_value : (rows : List Row) (root w : List ℕ) → first_of (codes "root") rows ≡ Some root → (root ≡ codes "all" → ⊥)
    → IsFirstWrong (root ∷ unwrap_or (all_of (codes "addresses") rows) []) w → IsWrongValue (Some (codes "table", rows)) w
wrong_value rows root w is_root one first = inl (record { rows = rows; table = refl; root = root; has_root = is_root; one = one; first = first })

-- what a run is to look up spells no address
pub wrong_lookup : (rows : List Row) (w : List ℕ) → first_of (codes "lookup") rows ≡ Some w → IsNoAddress w → IsWrongValue (Some (codes "run", rows)) w
wrong_lookup rows w has wrong = inr (inr (inr (inr (record { rows = rows; run = refl; has_lookup = has; wrong = wrong }))))

-- the router whose tables are compared spells no Router ID
pub wrong_compared : (rows : List Row) (w : List ℕ) → first_of (codes "root") rows ≡ Some w → IsNoRouter w → IsWrongValue (Some (codes "diff", rows)) w
wrong_compared rows w has wrong = inr (inr (inr (inl (record { rows = rows; diff = refl; has_root = has; wrong = wrong }))))

-- the first wrong word is the first wrong value of `path`
wrong_end : (rows : List Row) (from to w : List ℕ) → first_of (codes "from") rows ≡ Some from → first_of (codes "address") rows ≡ Some to
    → IsFirstWrong (from ∷ to ∷ []) w → IsWrongValue (Some (codes "path", rows)) w
wrong_end rows from to w has_from has_address first = inr (inr (inl (record { rows = rows; path = refl; from = from; has_from = has_from; address = to; has_address = has_address; first = first })))

-- the router after `path` spells no address
pub wrong_from : (rows : List Row) (from to w : List ℕ) → first_of (codes "from") rows ≡ Some from → first_of (codes "address") rows ≡ Some to
    → ((w ≡ from) × (e : AddrParseError) × ReadsRouterId from (Err e)) → IsWrongValue (Some (codes "path", rows)) w
wrong_from rows from to w has_from has_address h = wrong_end rows from to w has_from has_address (root_wrong from (to ∷ []) w h)

-- the router spells one, and the address after it none
pub wrong_to : (rows : List Row) (from : List ℕ) (r : RouterId) (to w : List ℕ) → first_of (codes "from") rows ≡ Some from → first_of (codes "address") rows ≡ Some to
    → ReadsRouterId from (Ok r) → ((w ≡ to) × (e : AddrParseError) × ReadsAddress to (Err e)) → IsWrongValue (Some (codes "path", rows)) w
wrong_to rows from r to w has_from has_address reads h = wrong_end rows from to w has_from has_address (address_wrong from r (to ∷ []) w reads (record {
  before = [];
  after = [];
  texts_are = ap (λ t. t ∷ []) (sym h.0);
  addresses = [];
  spelled = tt;
  wrong = λ a is. h.2 a (subst (λ t. IsDottedNumber t a.0) h.0 is);
}))

-- the root after `failures` spells no address
pub wrong_failing_root : (rows : List Row) (root w : List ℕ) → first_of (codes "root") rows ≡ Some root
    → ((w ≡ root) × (e : AddrParseError) × ReadsRouterId root (Err e)) → IsWrongValue (Some (codes "failures", rows)) w
wrong_failing_root rows root w has h = inr (inl (record {
  rows = rows;
  failures = refl;
  has_root = has ∙ ap Some (sym h.0);
  wrong = λ a is. h.2 (record { 0 = a.0 }) (subst (λ t. IsDottedNumber t a.0) h.0 is);
}))

-- ---- words that make no job

-- and what one of them asks for
pub is_asked : (rows : List Row) (drawn json : Bool) (asked : InspectJob) → IsFlag (one_of (codes "dot") rows) drawn → IsFlag (one_of (codes "json") rows) json
    → Some asked ≡ lsas_asked drawn json → IsInspectJob (Some (codes "lsas", rows)) asked
is_asked rows true true asked d j e = absurd (none-some asked (sym e))
is_asked rows true false asked d j e = let same : Drawing ≡ asked = cc in subst (IsInspectJob (Some (codes "lsas", rows))) same (rows, refl, d, j)
is_asked rows false true asked d j e = let same : Lsas form.Json ≡ asked = cc in subst (IsInspectJob (Some (codes "lsas", rows))) same (rows, refl, d, j)
is_asked rows false false asked d j e = let same : Lsas form.Text ≡ asked = cc in subst (IsInspectJob (Some (codes "lsas", rows))) same (rows, refl, d, j)

pub none_asked : (rows : List Row) (drawn json : Bool) → IsFlag (one_of (codes "dot") rows) drawn → IsFlag (one_of (codes "json") rows) json
    → None ≡ lsas_asked drawn json → IsNoJob (Some (codes "lsas", rows))
none_asked rows true true d j e = in_lsas rows refl (d, j)
none_asked rows true false d j e = absurd (none-some Drawing e)
none_asked rows false true d j e = absurd (none-some (Lsas form.Json) e)
none_asked rows false false d j e = absurd (none-some (Lsas form.Text) e)

-- how much the flags of `check` ask for
pub is_telling : (rows : List Row) (explain all : Bool) → IsFlag (one_of (codes "explain") rows) explain → IsFlag (one_of (codes "all") rows) all
    → IsTelling (one_of (codes "explain") rows) (one_of (codes "all") rows) (telling_of explain all)
is_telling rows true true e a = a
is_telling rows false true e a = a
is_telling rows true false e a = (a, e)
is_telling rows false false e a = (a, e)

-- with `--all` there is no `--json`
pub all_apart : (explain all json lines : Bool) → (json && (all || lines)) ≡ false → telling_of explain all ≡ telling.AllExplained → json ≡ false
all_apart explain all false lines apart is = refl
all_apart explain true true lines apart is = absurd (let same : true ≡ false = apart in cc)
all_apart true false true lines apart is = absurd (let same : telling.Explained ≡ telling.AllExplained = is in cc)
all_apart false false true lines apart is = absurd (let same : telling.Verdict ≡ telling.AllExplained = is in cc)

-- with `--json=2` there is no `--json`
pub one_version : (all json lines : Bool) → (json && (all || lines)) ≡ false → lines ≡ true → json ≡ false
one_version all false lines apart is = refl
one_version true true lines apart is = absurd (let same : true ≡ false = apart in cc)
one_version false true lines apart is = absurd (let same : true ≡ false = sym is ∙ apart in cc)

-- flags of `check` that do not go together
pub apart_flags : (rows : List Row) (all json lines : Bool) → IsFlag (one_of (codes "all") rows) all → IsFlag (one_of (codes "json") rows) json → IsFlag (one_of (codes "json2") rows) lines
    → (json && (all || lines)) ≡ true → IsAllInJson rows ⊎ AreBothVersions rows
apart_flags rows all false lines a j l is = absurd (let same : false ≡ true = is in cc)
apart_flags rows true true lines a j l is = inl (a, j)
apart_flags rows false true true a j l is = inr (l, j)
apart_flags rows false true false a j l is = absurd (let same : false ≡ true = is in cc)

-- a journal that is JSON is one
pub journal_apart : {T : Type 0} (log : Option T) (json : Bool) → (json ≡ false) ⊎ (is_some log ≡ true) → log ≡ None → json ≡ false
journal_apart log json (inl plain) is = plain
journal_apart log json (inr some) is = absurd (let same : false ≡ true = ap is_some (sym is) ∙ some in cc)

-- a flag that cannot be set is not
pub false_unless : (b : Bool) → (b ≡ true → ⊥) → b ≡ false
false_unless true never = absurd (never refl)
false_unless false never = refl

-- a text that is none is of no word
pub no_text : {T : Type 0} (text : T → List ℕ) (log : Option T) (found : Option (List ℕ)) (none : Bool) → is_some log ≡ not none → none ≡ true
    → option_map text log ≡ found → found ≡ None
no_text text None found none known is same = sym same
no_text text (Some x) found none known is same = absurd (let wrong : true ≡ false = known ∙ ap not is in cc)

-- what `run` reads behind its ticks
pub run_read : (rows : List Row) (ticks : Option ℕ) (r : Result (Option Job) JobFault) → IfOk r (λ found. IfSome found (IsRunWith rows ticks))
    → IfOk r (λ found. IfNone found (LacksInRun rows)) → IfOk r (IsJobIfAny (Some (codes "run", rows)))
run_read rows ticks (Err f) some none = tt
run_read rows ticks (Ok None) some none = in_run rows refl (inr none)
run_read rows ticks (Ok (Some (job.Run r))) some none = (rows, refl, some.0)
run_read rows ticks (Ok (Some j)) some none = absurd some

-- ---- numbers

-- the text that a value was read of
pub number_read : {E : Type 0} (gives : List ℕ → Result ℕ E → Type 0) → ((t : List ℕ) (n : ℕ) → gives t (Ok n) → IsNumber t n) → (o : Option (List ℕ)) (r : Option ℕ) (n : ℕ)
    → (o ≡ None → r ≡ None) → ((t : List ℕ) → o ≡ Some t → ReadsOne gives t r) → r ≡ Some n → (t : List ℕ) × (o ≡ Some t) × IsNumber t n
number_read gives reads None r n none some is = absurd (none-some n (sym (none refl) ∙ is))
number_read gives reads (Some t) r n none some is = (t, refl, reads t n (subst (λ q. ReadsOne gives t q) is (some t refl)))

-- a value that was not read is of no text that is a number
pub no_number_read : {E : Type 0} (gives : List ℕ → Result ℕ E → Type 0) → ((t : List ℕ) (e : E) (n : ℕ) → gives t (Err e) → IsNumber t n → n < 2 ^ 64 → ⊥)
    → (o : Option (List ℕ)) (r : Option ℕ) → ((t : List ℕ) → o ≡ Some t → ReadsOne gives t r) → r ≡ None → IsNoNumber o
no_number_read gives refuses o r some is = λ t n at number small.
    let refused = subst (λ q. ReadsOne gives t q) is (some t at) in refuses t refused.0 n refused.1 number small

-- the number of a text, if there is one
pub number_if_any : {E : Type 0} (gives : List ℕ → Result ℕ E → Type 0) → ((t : List ℕ) (n : ℕ) → gives t (Ok n) → IsNumber t n)
    → ((t : List ℕ) (e : E) (n : ℕ) → gives t (Err e) → IsNumber t n → n < 2 ^ 64 → ⊥) → (o : Option (List ℕ)) (r : Option ℕ)
    → (o ≡ None → r ≡ None) → ((t : List ℕ) → o ≡ Some t → ReadsOne gives t r) → IsNumberIfAny o r
number_if_any gives reads refuses None None none some = tt
number_if_any gives reads refuses None (Some n) none some = absurd (none-some n (sym (none refl)))
number_if_any gives reads refuses (Some t) (Some n) none some = reads t n (some t refl)
number_if_any gives reads refuses (Some t) None none some = λ n number small. let refused = some t refl in refuses t refused.0 n refused.1 number small

-- what `clap` refuses
pub words_refused : (words : List (List ℕ)) (e : Error) (f : JobFault) → HasKind (fault_of command_app words) e → IsFaultOfWords e f → IsUncounted words f
words_refused words e f kinds is = elim is [
  | inl h ↦ subst (IsUncounted words) (sym h.1) tt
  | inr h ↦ subst (IsUncounted words) (sym h.1) (inl (elim kinds [ inl memory ↦ absurd (h.0 memory) | inr among ↦ among ]))
]

-- where `clap` refuses nothing and reads no job
pub no_job_refused : (words : List (List ℕ)) (f : JobFault) → fault_of command_app words ≡ [] → IsNoJob (subcommand_of command_app words)
    → IsFaultOfNoValue f → IsUncounted words f
no_job_refused words (fault.Words e) none no_job is = inr (none, no_job)
no_job_refused words (fault.Address w) none no_job is = absurd is
no_job_refused words fault.Memory none no_job is = tt

-- in which form failures are, by their flags
pub told_by : (rows : List Row) (json json2 harm : Bool) (f : FailuresForm) → Some f ≡ failures_form json json2 harm → AreForms rows json json2 harm → IsFailuresForm rows f
told_by rows false false false f is flags = let same : told.Text ≡ f = cc in subst (IsFailuresForm rows) same flags
told_by rows true false false f is flags = let same : told.Json ≡ f = cc in subst (IsFailuresForm rows) same flags
told_by rows false true false f is flags = let same : told.JsonLines ≡ f = cc in subst (IsFailuresForm rows) same flags
told_by rows false false true f is flags = let same : told.Harm ≡ f = cc in subst (IsFailuresForm rows) same flags
told_by rows true true harm f is flags = absurd (none-some f (sym is))
told_by rows true false true f is flags = absurd (none-some f (sym is))
told_by rows false true true f is flags = absurd (none-some f (sym is))

-- ---- runs without a last tick

text_at : (words : List (Bor (List ℕ))) (k : ℕ) (w : Bor (List ℕ)) → k < length words → slice_index_or words k w ≡ w → slice_index_or (texts_of words) k w.now ≡ w.now
text_at [] k w below at = absurd (omega (arith, below))
text_at (v ∷ words) zero w below at = ap (λ (b : Bor (List ℕ)). b.now) at
text_at (v ∷ words) (suc k) w below at = text_at words k w (omega (arith, below)) at

texts_below : (words : List (Bor (List ℕ))) (k : ℕ) → k < length words → k < length (texts_of words)
texts_below [] k below = absurd (omega (arith, below))
texts_below (v ∷ words) zero below = omega arith
texts_below (v ∷ words) (suc k) below = let h = texts_below words k (omega (arith, below)) in omega (arith, h)

-- what is among the words is among their texts
pub forever_text : (words : List (Bor (List ℕ))) → Any (λ w. w.now ≡ codes "forever") words → HasForever (texts_of words)
forever_text words h = (
  h.0,
  h.1.now,
  texts_below words h.0 h.2,
  text_at words h.0 h.1 h.2 h.3,
  h.4,
)

-- and the other way round
pub forever_word : (words : List (Bor (List ℕ))) → HasForever (texts_of words) → Any (λ w. w.now ≡ codes "forever") words
forever_word words h = go words h.0 h.1 h.2 h.3 h.4
  where
    go : (vs : List (Bor (List ℕ))) (k : ℕ) (t : List ℕ) → k < length (texts_of vs) → slice_index_or (texts_of vs) k t ≡ t → t ≡ codes "forever"
        → Any (λ w. w.now ≡ codes "forever") vs
    go [] k t below at is = absurd (omega (arith, below))
    go (v ∷ vs) zero t below at is = (zero, v, omega arith, refl, at ∙ is)
    go (v ∷ vs) (suc k) t below at is = let h = go vs k t (omega (arith, below)) at is in (suc h.0, h.1, omega (arith, h.2), h.3, h.4)

-- what a run without a last tick is refused for
pub unending_value : (words : List (List ℕ)) (f : JobFault) → fault_of endless_app words ≡ [] → IsForeverIn (subcommand_of endless_app words) → IsFaultOfValue (IsWrongValue (subcommand_of endless_app words)) f → IsUnending words f
unending_value words (fault.Words e) none run h = absurd h
unending_value words (fault.Address w) none run h = (none, run, h)
unending_value words fault.Memory none run h = tt

pub unending_refused : (words : List (List ℕ)) (f : JobFault) → fault_of endless_app words ≡ [] → IsUnendingRun (subcommand_of endless_app words)
    → IsFaultOfNoValue f → IsUnending words f
unending_refused words (fault.Words e) none run is = inr (none, run)
unending_refused words (fault.Address w) none run is = absurd is
unending_refused words fault.Memory none run is = tt

-- what `clap` refuses where `forever` is among the words
pub unending_words : (words : List (List ℕ)) (e : Error) (f : JobFault) → HasForever words → HasKind (fault_of endless_app words) e → IsFaultOfWords e f
    → IsUnending words f
unending_words words e f forever kinds is = elim is [
  | inl h ↦ subst (IsUnending words) (sym h.1) tt
  | inr h ↦ subst (IsUnending words) (sym h.1) (inl (forever, elim kinds [ inl memory ↦ absurd (h.0 memory) | inr among ↦ among ]))
]

pub unending_unasked : (words : List (List ℕ)) (f : JobFault) → IsUnending words f → IsUnasked words f
unending_unasked words (fault.Words e) h = inr h
unending_unasked words (fault.Address w) h = inr h
unending_unasked words fault.Memory h = inr tt
