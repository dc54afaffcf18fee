-- What is told of files, one after another.
use Rattle.std.proofs.Common.{◌≡◌, ◌&&◌, ◌++◌, ℕ, Bool, true, false, List, [], ◌∷◌, Option, None, Some, Result, Ok, Err, Bor, refl, ap, subst, sym, ◌∙◌}
use Rattle.std.specs.Result.{IfOk, OnErr}
use Rattle.std.proofs.lemmas.Bool.{false≢true}
use Rattle.std.proofs.lemmas.List.{append_assoc}
use Rattle.ospf_files.specs.Files.{unwritten}
use Rattle.ospf_files.specs.Streams.{IsBegun}
use Rattle.ospf_views.specs.RecordFiles.Files.{TellsBefore, TellsUnwritten, names_in, no_file, is_unwritten, is_written}

-- ---- one file

pub tells_unwanted : {err : Option (List ℕ)} (file : Option (Bor (List ℕ))) → file ≡ None → TellsUnwritten (names_in file) true err err
tells_unwanted {err} file none = subst (λ (f : Option (Bor (List ℕ))). TellsUnwritten (names_in f) true err err) (sym none) no_file

tells_one : {E : Type 0} {old new : Option (List ℕ)} (name : List ℕ) (r : Result Bool E) → (r ≡ Ok true → new ≡ old) → (r ≡ Ok false → IsBegun old new (unwritten name))
    → IfOk r (λ all. TellsUnwritten (name ∷ []) all old new)
tells_one {E} {old} {new} name (Ok true) silent begun = is_written (subst (λ (e : Option (List ℕ)). TellsUnwritten [] true old e) (sym (silent refl)) no_file)
tells_one {E} {old} {new} name (Ok false) silent begun = is_unwritten new (begun refl) no_file
tells_one name (Err e) silent begun = tt

pub tells_wanted : {E : Type 0} {old new : Option (List ℕ)} (file : Option (Bor (List ℕ))) (name : Bor (List ℕ)) (r : Result Bool E) → file ≡ Some name
    → (r ≡ Ok true → new ≡ old) → (r ≡ Ok false → IsBegun old new (unwritten name.now)) → IfOk r (λ all. TellsUnwritten (names_in file) all old new)
tells_wanted {E} {old} {new} file name r some silent begun =
    subst (λ (f : Option (Bor (List ℕ))). IfOk r (λ all. TellsUnwritten (names_in f) all old new)) (sym some) (tells_one name.now r silent begun)

-- ---- several

-- first of these files, and then of those
pub tells_both : {xs ys : List (List ℕ)} {a b : Bool} {old mid new : Option (List ℕ)} → TellsUnwritten xs a old mid → TellsUnwritten ys b mid new → TellsUnwritten (xs ++ ys) (a && b) old new
tells_both no_file later = later
tells_both (is_written told) later = is_written (tells_both told later)
tells_both (is_unwritten mid begun told) later = is_unwritten mid begun (tells_both told later)

pub tells_first_all : {xs ys : List (List ℕ)} {a b : Bool} {old mid new : Option (List ℕ)} → a ≡ true → TellsUnwritten xs a old mid → TellsUnwritten ys b mid new → TellsUnwritten (xs ++ ys) b old new
tells_first_all {xs} {ys} {a} {b} {old} {mid} {new} all told later = subst (λ (t : Bool). TellsUnwritten (xs ++ ys) (t && b) old new) all (tells_both told later)

pub tells_first_not : {xs ys : List (List ℕ)} {a b : Bool} {old mid new : Option (List ℕ)} → a ≡ false → TellsUnwritten xs a old mid → TellsUnwritten ys b mid new → TellsUnwritten (xs ++ ys) a old new
tells_first_not {xs} {ys} {a} {b} {old} {mid} {new} not_all told later =
    subst (λ (t : Bool). TellsUnwritten (xs ++ ys) t old new) (sym not_all) (subst (λ (t : Bool). TellsUnwritten (xs ++ ys) (t && b) old new) not_all (tells_both told later))

-- where all are written nothing is told
pub tells_nothing : {names : List (List ℕ)} {all : Bool} {old new : Option (List ℕ)} → TellsUnwritten names all old new → all ≡ true → new ≡ old
tells_nothing no_file is = refl
tells_nothing (is_written told) is = tells_nothing told is
tells_nothing (is_unwritten mid begun told) is = absurd (false≢true is)

-- ---- where memory runs out

pub on_err : {A E P : Type 0} (r : Result A E) → P → OnErr r P
on_err (Ok x) p = tt
on_err (Err e) p = p

-- at a file that is wanted
pub cut_at : {old new : Option (List ℕ)} (file : Option (Bor (List ℕ))) (name : Bor (List ℕ)) → file ≡ Some name → new ≡ old → TellsBefore (names_in file) old new
cut_at {old} file name some same = record {
  before = [];
  one = name.now;
  after = [];
  names_are = ap (λ (f : Option (Bor (List ℕ))). names_in f) some;
  all = true;
  told = subst (λ (e : Option (List ℕ)). TellsUnwritten [] true old e) (sym same) no_file;
}

pub cut_in : {A E : Type 0} (old new : Option (List ℕ)) (file : Option (Bor (List ℕ))) (name : Bor (List ℕ)) (r : Result A E) → file ≡ Some name → OnErr r (new ≡ old)
    → OnErr r (TellsBefore (names_in file) old new)
cut_in old new file name (Ok x) some same = tt
cut_in old new file name (Err e) some same = cut_at file name some same

-- among the first files
pub cut_early : {xs : List (List ℕ)} (ys : List (List ℕ)) {old new : Option (List ℕ)} → TellsBefore xs old new → TellsBefore (xs ++ ys) old new
cut_early ys cut = record {
  before = cut.before;
  one = cut.one;
  after = cut.after ++ ys;
  names_are = ap (λ (names : List (List ℕ)). names ++ ys) cut.names_are ∙ append_assoc cut.before (cut.one ∷ cut.after) ys;
  all = cut.all;
  told = cut.told;
}

-- among those behind them
pub cut_later : {xs ys : List (List ℕ)} {a : Bool} {old mid new : Option (List ℕ)} → TellsUnwritten xs a old mid → TellsBefore ys mid new → TellsBefore (xs ++ ys) old new
cut_later {xs} {ys} {a} told cut = record {
  before = xs ++ cut.before;
  one = cut.one;
  after = cut.after;
  names_are = ap (λ (names : List (List ℕ)). xs ++ names) cut.names_are ∙ sym (append_assoc xs cut.before (cut.one ∷ cut.after));
  all = a && cut.all;
  told = tells_both told cut.told;
}
