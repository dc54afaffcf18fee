-- Configurations that can run beside each other.
use Rattle.std.proofs.Common.{Option, None, is_some, ◌≡◌, refl, ap, sym, subst, ◌+◌, ◌<◌, ◌≤◌, ℕ, suc, List, [], ◌∷◌, length, take, get_or, Some, All, arith, slice_get, below_more, ◌∙◌, false, length-take, ◌++◌, drop, Result, Ok, Err, IfErr}
use Rattle.std.specs.Result.{IsErrAnd}
use Rattle.std.proofs.lemmas.Bool.{false≢true}
use Rattle.std.proofs.lemmas.Option.{get_or_from_slice_get, slice_get-get_or, slice_get_read, slice_get_within}
use Rattle.std.proofs.lemmas.List.{get_or-take}
use Rattle.ospf_config.specs.declared.config.Config.{Config}
use Rattle.ospf_config.specs.declared.fault.ConfigFault.{ConfigFault}
use Rattle.ospf_files.proofs.Listed.{config_read, files_split}
use Rattle.ospf_files.specs.Files.{IsConfigIn, IsRefusedFor, text_in}
use Rattle.ospf_files.specs.Listed.{AreConfigs, IsFirstRefused}
use Rattle.ospf_files.specs.declared.files.NamedFile.{NamedFile}
use Rattle.ospf_files.specs.declared.status.Failure.TheVariants as failure
use Rattle.ospf_drive.specs.UdpWire.Obstacles.{IsReadAs}
use Rattle.ospf_drive.specs.declared.udp.stop.Stop.{Stop}
use Rattle.ospf_drive.specs.declared.udp.stop.Stop.TheVariants as stop

pub at_item : {A : Type 0} (xs : List A) (i : ℕ) (x : A) → i < length xs → x ≡ get_or xs i x → slice_get xs i ≡ Some x
at_item xs i x within is = slice_get_read xs (length xs) i x refl within is

-- what is at one place is one
pub one_at : {A : Type 0} (xs : List A) (i : ℕ) (x y : A) → slice_get xs i ≡ Some x → slice_get xs i ≡ Some y → x ≡ y
one_at xs i x y at_x at_y = let both : Some x ≡ Some y = cc in cc

-- what holds at each place before one, and there, holds at each place before the next
pub more_at : {A : Type 0} (P : A → Type 0) (xs : List A) (i : ℕ) (x : A) → slice_get xs i ≡ Some x
    → ((k : ℕ) (y : A) → k < i → slice_get xs k ≡ Some y → P y) → P x → (k : ℕ) (y : A) → k < i + 1 → slice_get xs k ≡ Some y → P y
more_at {A} P xs i x here before holds k y less at =
    below_more (λ j. (z : A) → slice_get xs j ≡ Some z → P z) i (λ j below z at_j. before j z below at_j)
    (λ z at_i. subst P (one_at xs i x z here at_i) holds) k less y at

-- what holds at each place holds of all
pub all_at : {A : Type 0} (P : A → Type 0) (xs : List A) (n : ℕ) → length xs ≤ n → ((k : ℕ) (y : A) → k < n → slice_get xs k ≡ Some y → P y) → All P xs
all_at P xs n enough each = λ k d within. each k (get_or xs k d) (omega (arith, within, enough)) (slice_get-get_or xs k d within)

-- what is before one is that of the front
pub front_at : {A : Type 0} (xs : List A) (later k : ℕ) (x : A) → slice_get (take later xs) k ≡ Some x → slice_get xs k ≡ Some x
front_at xs later k x at =
    let within : k < length (take later xs) = slice_get_within (take later xs) k x at in
    let less : k < later = omega (arith, within, length-take later xs) in
    let below : k < length xs = omega (arith, within, length-take later xs) in
    let read : x ≡ get_or xs k x = sym (get_or_from_slice_get (take later xs) k x x at) ∙ get_or-take later xs k x less in
    slice_get_read xs (length xs) k x refl below read

-- what is found to be missing
pub nothing_there : {A : Type 0} (o : Option A) → is_some o ≡ false → o ≡ None
nothing_there None is = refl
nothing_there (Some x) is = absurd (false≢true (sym is))

pub as_many_configs : (files : List NamedFile) (configs : List Config) → AreConfigs files configs → length files ≡ length configs
as_many_configs [] [] are = refl
as_many_configs [] (c ∷ cs) are = absurd are
as_many_configs (f ∷ fs) [] are = absurd are
as_many_configs (f ∷ fs) (c ∷ cs) are = ap (λ (n : ℕ). suc n) (as_many_configs fs cs are.1)

-- the first file that has a fault
pub first_refused : (files : List NamedFile) (i : ℕ) (file : NamedFile) (configs : List Config) (found : Result Config ConfigFault) (fault : ConfigFault) → i < length files
    → file ≡ get_or files i file → AreConfigs (take i files) configs → found ≡ Err fault → IsReadAs file found → IsFirstRefused file fault files
first_refused files i file configs (Ok config) fault within at are is reads = absurd (cc is)
first_refused files i file configs (Err other) fault within at are is reads =
    let one : other ≡ fault = cc is in
    record {
      before = take i files;
      configs = configs;
      after = drop (suc i) files;
      files_are = files_split files i file within at;
      are_configs = are;
      refused = subst (λ (f : ConfigFault). IsRefusedFor (text_in file) f) one reads;
    }

-- one configuration more
pub config_more : (files : List NamedFile) (i : ℕ) (file : NamedFile) (configs more : List Config) (found : Result Config ConfigFault) (config : Config) → i < length files
    → file ≡ get_or files i file → AreConfigs (take i files) configs → found ≡ Ok config → IsReadAs file found → more ≡ configs ++ config ∷ [] → AreConfigs (take (i + 1) files) more
config_more files i file configs more (Err fault) config within at are is reads more_is = absurd (cc is)
config_more files i file configs more (Ok other) config within at are is reads more_is =
    let one : other ≡ config = cc is in
    config_read files i file configs more config within at are (subst (λ (c : Config). IsConfigIn (text_in file) c) one reads) more_is

-- what holds of an error that is passed on
pub passed_on : {T E : Type 0} (r : Result T E) (e : E) (P : E → Type 0) → IsErrAnd r (λ x. x ≡ e) → P e → IfErr r P
passed_on (Ok x) e P is p = tt
passed_on (Err x) e P is p = subst P (sym is) p

-- what holds where memory ran out
pub stopped_early : {T : Type 0} (r : Result T Stop) (P : Stop → Type 0) → IsErrAnd r (λ s. s ≡ stop.Failure failure.Memory) → P (stop.Failure failure.Memory) → IfErr r P
stopped_early r P is p = passed_on r (stop.Failure failure.Memory) P is p
