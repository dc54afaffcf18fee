-- Files, one after another, and the configurations in them.
use Rattle.std.proofs.Common.{◌≡◌, ◌∙◌, ap, sym, subst, ◌+◌, ◌<◌, ℕ, suc, List, [], ◌∷◌, ◌++◌, length, take, drop, get_or, Option, None, Some}
use Rattle.std.specs.Io.KnownBytes.{Appends}
use Rattle.std.proofs.lemmas.List.{take_more, take-append-drop}
use Rattle.std.proofs.Math.Seq.{drop-cons}
use Rattle.ospf_config.specs.declared.config.Config.{Config}
use Rattle.ospf_files.specs.Files.{IsConfigIn, IsRead, refused_line, text_in}
use Rattle.ospf_files.specs.Listed.{AreConfigs, AreFilesRead, ConfigComes, IsRefusalTold}
use Rattle.ospf_files.specs.declared.files.NamedFile.{NamedFile}

-- the files before one, that one, and those behind it
pub files_split : (files : List NamedFile) (i : ℕ) (file : NamedFile) → i < length files → file ≡ get_or files i file
    → files ≡ take i files ++ file ∷ drop (suc i) files
files_split files i file within is =
    sym (ap (λ x. take i files ++ x ∷ drop (suc i) files) is ∙ ap (λ rest. take i files ++ rest) (sym (drop-cons files i file within)) ∙ take-append-drop i files)

more_configs : (files : List NamedFile) (configs : List Config) (file : NamedFile) (config : Config) → AreConfigs files configs → IsConfigIn (text_in file) config
    → AreConfigs (files ++ file ∷ []) (configs ++ config ∷ [])
more_configs [] [] file config are is = (is, tt)
more_configs [] (c ∷ cs) file config are is = absurd are
more_configs (f ∷ fs) [] file config are is = absurd are
more_configs (f ∷ fs) (c ∷ cs) file config are is = (are.0, more_configs fs cs file config are.1 is)

-- one configuration more
pub config_read : (files : List NamedFile) (i : ℕ) (file : NamedFile) (configs more : List Config) (config : Config) → i < length files → file ≡ get_or files i file
    → AreConfigs (take i files) configs → IsConfigIn (text_in file) config → more ≡ configs ++ config ∷ [] → AreConfigs (take (i + 1) files) more
config_read files i file configs more config within is are holds more_is =
    let front : take (i + 1) files ≡ take i files ++ file ∷ [] = take_more files i file within ∙ ap (λ last. take i files ++ last ∷ []) (sym is) in
    subst (λ cs. AreConfigs (take (i + 1) files) cs) (sym more_is)
    (subst (λ fs. AreConfigs fs (configs ++ config ∷ [])) (sym front) (more_configs (take i files) configs file config are holds))

more_read : (files : List NamedFile) (file : NamedFile) → AreFilesRead files → IsRead file → AreFilesRead (files ++ file ∷ [])
more_read [] file all is = (is, tt)
more_read (f ∷ fs) file all is = (all.0, more_read fs file all.1 is)

-- one file more
pub file_read : (files : List NamedFile) (i : ℕ) (file : NamedFile) → i < length files → file ≡ get_or files i file → AreFilesRead (take i files) → IsRead file
    → AreFilesRead (take (i + 1) files)
file_read files i file within is all read =
    let front : take (i + 1) files ≡ take i files ++ file ∷ [] = take_more files i file within ∙ ap (λ last. take i files ++ last ∷ []) (sym is) in
    subst (λ fs. AreFilesRead fs) (sym front) (more_read (take i files) file all read)

pub config_found : (file : NamedFile) (found : Option Config) (config : Config) (y z : Option (List ℕ)) → found ≡ Some config → ConfigComes file found y z
    → IsConfigIn (text_in file) config × (z ≡ y)
config_found file None config y z is comes = absurd (cc is)
config_found file (Some other) config y z is comes =
    let one : other ≡ config = cc is in
    (subst (IsConfigIn (text_in file)) one comes.0, comes.1)

pub config_refused : (files : List NamedFile) (i : ℕ) (file : NamedFile) (configs : List Config) (found : Option Config) (x y z : Option (List ℕ)) → i < length files
    → file ≡ get_or files i file → AreConfigs (take i files) configs → y ≡ x → found ≡ None → ConfigComes file found y z → IsRefusalTold files x z
config_refused files i file configs (Some other) x y z within at are same is comes = absurd (cc is)
config_refused files i file configs None x y z within at are same is comes = record {
  file = file;
  fault = comes.0;
  refused = record {
    before = take i files;
    configs = configs;
    after = drop (suc i) files;
    files_are = files_split files i file within at;
    are_configs = are;
    refused = comes.1;
  };
  told = subst (λ old. Appends old z (refused_line file comes.0)) same comes.2;
}
