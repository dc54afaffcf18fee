-- Checks in lines of JSON.
use Rattle.std.proofs.Common.{◌≡◌, ◌∙◌, ◌<◌, ◌+◌, ◌∷◌, ◌++◌, ◌||◌, ℕ, Bool, true, false, List, [], Option, None, Some, Result, Ok, Err, IfErr, IfOk, OnErr, OnOk, ap, flat_map, get_or, is_some, length, map, option_map, refl, string_bytes, subst, sym, take}
use Rattle.std.specs.List.{enumerate_from}
use Rattle.std.specs.Io.KnownBytes.{Appends}
use Rattle.std.specs.Prelude.{Vec}
use Rattle.std.specs.declared.alloc.Global.{Global}
use Rattle.std.proofs.lemmas.List.{flat_map_more, take_more}
use Rattle.serde_json.specs.Data.{Data}
use Rattle.serde_json.specs.View.{items_of}
use Rattle.serde_json.specs.Written.{has_float, items_have_float}
use Rattle.ospf_config.specs.declared.config.Config.{Config}
use Rattle.ospf_config.specs.declared.interface.Interface.{Interface}
use Rattle.ospf_config.specs.declared.fault.ConfigFault.{ConfigFault}
use Rattle.ospf_files.specs.Streams.{IsBegun, IsOutputCut, Written, written_on}
use Rattle.ospf_files.specs.declared.all.FaultExplained.{FaultExplained}
use Rattle.ospf_files.specs.declared.explained.Explained.{Explained}
use Rattle.ospf_files.specs.declared.explained.Explained.TheVariants as said
use Rattle.ospf_files.specs.declared.explained.KeyExplained.{KeyExplained}
use Rattle.ospf_files.specs.declared.explained.Section.{Section}
use Rattle.ospf_files.specs.declared.explained.Section.TheVariants as section
use Rattle.ospf_files.specs.declared.files.NamedFile.{NamedFile}
use Rattle.ospf_files.specs.declared.status.Failure.{Failure}
use Rattle.ospf_files.specs.declared.streams.FailedStreams.{FailedStreams}
use Rattle.ospf_files.specs.declared.telling.Telling.{Telling}
use Rattle.ospf_plan.specs.Ends.{is_slow}
use Rattle.ospf_check.specs.Checked.{HoldConfigs, IsWritten, can_lead}
use Rattle.ospf_check.specs.Lines.{AreCheckLines, AreFaultItems, AreFileLines, IsFileData, IsFileLine, IsLinesPrinted, IsTextCut, IsTextPrinted, accepted, at_text, config_warnings, delay_items, each_place, fault_items, file_line_data, leaf_items, no_text, one_more, fault_place_data, refused, warning_items}

-- the line of one file more
pub file_next : (files : List NamedFile) (i : ℕ) (file : NamedFile) (lines line : List ℕ) → i < length files → file ≡ get_or files i file → AreFileLines (take i files) lines
    → IsFileLine file line → AreFileLines (take (i + 1) files) (lines ++ line)
file_next files i file lines line within at so_far here =
    let more = ap (λ last. take i files ++ last ∷ []) at ∙ sym (take_more files i file within) in
    subst (λ fs. AreFileLines fs (lines ++ line)) more (one_more so_far here)

-- the line of one thing more
pub text_next : {X : Type 0} (f : X → List ℕ) (xs : List X) (i : ℕ) (x : X) (so_far line new : List ℕ) → i < length xs → x ≡ get_or xs i x → so_far ≡ flat_map f (take i xs) → line ≡ f x
    → new ≡ so_far ++ line → new ≡ flat_map f (take (i + 1) xs)
text_next f xs i x so_far line new within is front shown all =
    all ∙ ap (λ l. so_far ++ l) shown ∙ ap (λ l. l ++ f x) front ∙ ap (λ y. flat_map f (take i xs) ++ f y) is ∙ flat_map_more f [] (take i xs) (get_or xs i x)
    ∙ ap (flat_map f) (sym (take_more xs i x within))

-- ---- no value is a float

module _ {X : Type 0} (f : X → Data) (plain : (x : X) → has_float (f x) ≡ false) where
  map_plain : (xs : List X) → items_have_float (items_of (map f xs)) ≡ false
  map_plain [] = refl
  map_plain (x ∷ xs) = rw (plain x, map_plain xs) refl

or_left : (a b : Bool) → (a || b) ≡ false → a ≡ false
or_left true b is = is
or_left false b is = refl

or_right : (a b : Bool) → (a || b) ≡ false → b ≡ false
or_right true b is = absurd (let wrong : true ≡ false = is in cc)
or_right false b is = is

append_plain : (a b : List Data) → items_have_float (items_of a) ≡ false → items_have_float (items_of b) ≡ false → items_have_float (items_of (a ++ b)) ≡ false
append_plain [] b is also = also
append_plain (d ∷ ds) b is also =
    let one = or_left (has_float d) (items_have_float (items_of ds)) is in
    let rest = append_plain ds b (or_right (has_float d) (items_have_float (items_of ds)) is) also in
    rw (one, rest) refl

module _ {X : Type 0} (f : X → List Data) (plain : (x : X) → items_have_float (items_of (f x)) ≡ false) where
  flat_plain : (xs : List X) → items_have_float (items_of (flat_map f xs)) ≡ false
  flat_plain [] = refl
  flat_plain (x ∷ xs) = append_plain (f x) (flat_map f xs) (plain x) (flat_plain xs)

key_plain : (fault : ConfigFault) (p : KeyExplained) (at : Section) → p.section ≡ at → has_float (fault_place_data fault (said.Key p)) ≡ false
key_plain fault p section.Top is = rw is refl
key_plain fault p (section.Interface n) is = rw is refl
key_plain fault p (section.Host n) is = rw is refl

place_plain : (fault : ConfigFault) (e : Explained) → has_float (fault_place_data fault e) ≡ false
place_plain fault (said.Line n) = refl
place_plain fault (said.Key p) = key_plain fault p p.section refl

fault_plain : (f : FaultExplained) → items_have_float (items_of (fault_items f)) ≡ false
fault_plain f = map_plain (fault_place_data f.fault) (place_plain f.fault) f.places.items

faults_plain : (bytes : List ℕ) (ds : List Data) → AreFaultItems bytes ds → items_have_float (items_of ds) ≡ false
faults_plain bytes ds (no_text never is) = rw is refl
faults_plain bytes ds (each_place faults text explained is) = rw is (flat_plain fault_items fault_plain faults)

delay_plain : (i : ℕ × Interface) (b : Bool) → is_slow i.1.transmit_delay ≡ b → items_have_float (items_of (delay_items i)) ≡ false
delay_plain i true is = rw is refl
delay_plain i false is = rw is refl

leaf_plain : (over : Bool) (i : ℕ × Interface) (b : Bool) → can_lead over i.1 ≡ b → items_have_float (items_of (leaf_items over i)) ≡ false
leaf_plain over i true is = rw is refl
leaf_plain over i false is = rw is refl

warning_plain : (over : Bool) (i : ℕ × Interface) → items_have_float (items_of (warning_items over i)) ≡ false
warning_plain over i = append_plain (delay_items i) (leaf_items over i) (delay_plain i (is_slow i.1.transmit_delay) refl) (leaf_plain over i (can_lead over i.1) refl)

warnings_plain : (config : Config) → items_have_float (items_of (config_warnings config)) ≡ false
warnings_plain config = flat_plain (warning_items config.passes_over) (warning_plain config.passes_over) (enumerate_from 0 config.interfaces.items)

object_plain : (faults : List Data) (name : List ℕ) (warnings : List Data) → items_have_float (items_of faults) ≡ false → items_have_float (items_of warnings) ≡ false
    → has_float (file_line_data faults name warnings) ≡ false
object_plain faults name warnings one other = rw (one, other) refl

pub file_plain : (file : NamedFile) (d : Data) → IsFileData file d → has_float d ≡ false
file_plain file d (accepted config read is) = ap has_float is ∙ object_plain [] (string_bytes file.name) (config_warnings config) refl (warnings_plain config)
file_plain file d (refused fault ds because are is) = ap has_float is ∙ object_plain ds (string_bytes file.name) [] (faults_plain _ ds are) refl

-- ---- what is printed

module _ (area : Bool) (files : List NamedFile) (configs : Option (List Config)) (sound : Bool) (text : List ℕ) where
  pub text_printed : (a b : Option (List ℕ)) → AreCheckLines area files configs sound text → (r : Result Bool Failure) → IfOk r (λ s. s ≡ sound) → OnOk r (Appends a b text)
      → IfOk r (λ s. IsTextPrinted area files configs s a b)
  text_printed a b are (Ok s) is written = (text, subst (λ v. AreCheckLines area files configs v text) (sym is) are, written)
  text_printed a b are (Err e) is written = tt

  pub text_cut : (failed : FailedStreams) (a b : Option (List ℕ)) → AreCheckLines area files configs sound text → (r : Result Bool Failure) → OnErr r (IsBegun a b text) → IfErr r (IsOutputCut failed)
      → IfErr r (IsTextCut area files configs failed a b)
  text_cut failed a b are (Ok s) begun cut = tt
  text_cut failed a b are (Err e) begun cut = at_text sound text are begun cut

-- some configurations are some
are_some : (configs : Option (Vec Config Global)) → is_some (option_map (λ c. c.items) configs) ≡ is_some configs
are_some None = refl
are_some (Some c) = refl

pub same_files : (how : Telling) (files : List NamedFile) (old new : Written) (configs : Option (Vec Config Global)) → IsWritten how files (is_some configs) old new
    → IsWritten how files (is_some (option_map (λ c. c.items) configs)) old new
same_files how files old new configs told = subst (λ all. IsWritten how files all old new) (sym (are_some configs)) told

-- files are reported, and then their lines are printed
pub lines_printed : (how : Telling) (area : Bool) (files : List NamedFile) (configs : Option (Vec Config Global)) (sound : Bool) (old between : Written) (out_old out_new err : Option (List ℕ))
    → IsWritten how files (is_some configs) old between → HoldConfigs files (option_map (λ c. c.items) configs)
    → IsTextPrinted area files (option_map (λ c. c.items) configs) sound out_old out_new → err ≡ between.err
    → IsLinesPrinted how area files sound (written_on out_old old.err) (written_on out_new err)
lines_printed how area files configs sound old between out_old out_new err told hold printed same = record {
  configs = option_map (λ c. c.items) configs;
  hold = hold;
  other_old = old.out;
  other_new = between.out;
  reported =
      subst (λ e. IsWritten how files (is_some (option_map (λ c. c.items) configs)) (written_on old.out old.err) (written_on between.out e)) (sym same) (same_files how files old between configs told);
  printed = printed;
}
