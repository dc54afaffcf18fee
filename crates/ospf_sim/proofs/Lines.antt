-- Lines that run one after another.
use Rattle.std.proofs.Common.{◌≡◌, ◌∙◌, ap, sym, subst, refl, ◌+◌, ◌<◌, ◌≤◌, ℕ, suc, List, [], ◌∷◌, ◌++◌, length, take, drop, get_or, map, Bool, true, false, Option, append-nil, append_assoc}
use Rattle.std.proofs.lemmas.List.{take_all, take_more, take-append-drop, map-append}
use Rattle.std.proofs.Math.Seq.{drop-cons}
use Rattle.std.specs.Io.KnownBytes.{Appends, Keeps}
use Rattle.ospf_files.specs.Lines.{numbered_line, numbered_from}
use Rattle.ospf_files.specs.Streams.{Written, written_on}
use Rattle.ospf_script.specs.Commands.{SpellsCommand, IsUnreadable}
use Rattle.ospf_script.specs.Words.{Text, line_words}
use Rattle.ospf_script.specs.declared.command.Command.{Command}
use Rattle.ospf_files.specs.declared.line.Line.{Line}
use Rattle.ospf_commands.specs.declared.simulation.Simulation.{Simulation}
use Rattle.ospf_files.proofs.Written.{both_written, kept_written, nothing_written}
use Rattle.ospf_commands.specs.Commands.{IsDone}
use Rattle.ospf_commands.specs.Simulations.{Answer}
use Rattle.ospf_sim.specs.Scripts.{IsScriptRun, IsRunLine, LineComes, EndsEarly, RunsLine, RunsLines, answered, is_taken, no_line, one_line, told_of, unreadable_line}

-- the line of this number is the first that cannot be read, and those before it have run
pub record EndsAtLine (lines : List (ℕ × Text)) (number : ℕ) (line : Text) (w w' : Simulation)
    (old new : Written) : Type 0 where
  pub before : List (ℕ × Text)
  pub after : List (ℕ × Text)
  pub lines_are : lines ≡ before ++ (number, line) ∷ after
  pub unreadable : IsUnreadable line
  pub run : IsScriptRun before w w' old new

-- one line more
more_lines : (lines : List (ℕ × Text)) (number : ℕ) (line : Text) (w mid w' : Simulation) (outs out errs err : Text) → RunsLines lines w mid outs errs
    → RunsLine number line mid w' out err → RunsLines (lines ++ (number, line) ∷ []) w w' (outs ++ out) (errs ++ err)
more_lines _ number line w mid w' _ out _ err no_line last = rw (sym (append-nil out), sym (append-nil err)) (one_line last no_line)
more_lines _ number line w mid w' _ out _ err (one_line {lines = lines} {mid = first} {out = o} {outs = outs} {err = e} {errs = errs} head rest) last =
    rw (append_assoc o outs out, append_assoc e errs err) (one_line head (more_lines lines number line first mid w' outs out errs err rest last))

pub no_lines : (w : Simulation) (old : Written) → IsScriptRun [] w w old old
no_lines w old = record { out = []; err = []; runs = no_line; out_written = nothing_written old.out; err_written = nothing_written old.err }

-- the entries of one line more
entries_more : (lines : List Line) (i : ℕ) (d : Line) → i < length lines
    → map numbered_line (take (i + 1) lines) ≡ map numbered_line (take i lines) ++ numbered_line (get_or lines i d) ∷ []
entries_more lines i d within = ap (map numbered_line) (take_more lines i d within) ∙ map-append numbered_line (take i lines) (get_or lines i d ∷ [])

pub line_run : (lines : List Line) (i : ℕ) (d : Line) (w mid w' : Simulation) (old between new : Written) (read : Bool) → i < length lines → read ≡ true
    → IsScriptRun (map numbered_line (take i lines)) w mid old between → LineComes read (get_or lines i d) mid w' between new
    → IsScriptRun (map numbered_line (take (i + 1) lines)) w w' old new
line_run lines i d w mid w' old between new false within is so_far next = absurd (cc is)
line_run lines i d w mid w' old between new true within is so_far next =
    let line = get_or lines i d in
    let entries = sym (entries_more lines i d within) in
    record {
      out = so_far.out ++ next.out;
      err = so_far.err ++ next.err;
      runs = subst (λ front. RunsLines front w w' (so_far.out ++ next.out) (so_far.err ++ next.err)) entries
          (more_lines (map numbered_line (take i lines)) line.number line.text.now w mid w' so_far.out next.out so_far.err next.err so_far.runs next.runs);
      out_written = both_written old.out between.out new.out so_far.out next.out so_far.out_written next.out_written;
      err_written = both_written old.err between.err new.err so_far.err next.err so_far.err_written next.err_written;
    }

-- the lines before one, that one, and those behind it
pub entries_split : (lines : List Line) (i : ℕ) (d : Line) → i < length lines
    → map numbered_line lines ≡ map numbered_line (take i lines) ++ numbered_line (get_or lines i d) ∷ map numbered_line (drop (suc i) lines)
entries_split lines i d within =
    let split : take i lines ++ get_or lines i d ∷ drop (suc i) lines ≡ lines =
    ap (λ rest. take i lines ++ rest) (sym (drop-cons lines i d within)) ∙ take-append-drop i lines in
    ap (map numbered_line) (sym split) ∙ map-append numbered_line (take i lines) (get_or lines i d ∷ drop (suc i) lines)

pub line_ends : (lines : List Line) (i : ℕ) (d : Line) (w mid w' : Simulation) (old between new : Written) (read : Bool) → i < length lines → read ≡ false
    → IsScriptRun (map numbered_line (take i lines)) w mid old between → LineComes read (get_or lines i d) mid w' between new
    → EndsAtLine (map numbered_line lines) (get_or lines i d).number (get_or lines i d).text.now w w' old new
line_ends lines i d w mid w' old between new true within is so_far last = absurd (cc is)
line_ends lines i d w mid w' old between new false within is so_far last =
    let line = get_or lines i d in
    record {
      before = map numbered_line (take i lines);
      after = map numbered_line (drop (suc i) lines);
      lines_are = entries_split lines i d within;
      unreadable = last.unreadable;
      run = subst (λ written. IsScriptRun (map numbered_line (take i lines)) w w' old written) (sym last.same_written)
          (subst (λ end. IsScriptRun (map numbered_line (take i lines)) w end old between) (sym last.same_world) so_far);
    }

-- a command that is done, and told of
pub line_taken : (number : ℕ) (line : Text) (c : Command) (w mid w' : Simulation) (answer : Answer) (a b z x y : Option (List ℕ)) → SpellsCommand (line_words line) c → IsDone c w answer mid a b
    → w' ≡ answered answer mid → Appends b z [] → Appends x y (told_of number answer) → IsRunLine number line w w' (written_on a x) (written_on z y)
line_taken number line c w mid w' answer a b z x y spelled done noted out err = record {
  out = done.text;
  err = told_of number answer;
  runs = is_taken c answer mid spelled done.is_so noted refl;
  out_written = subst (Appends a z) (append-nil done.text) (both_written a b z done.text [] done.written out);
  err_written = err;
}

-- lines that have all run
pub whole_at : (lines : List Line) (i : ℕ) (script : Text) (w w' : Simulation) (old : Written) (b c y : Option (List ℕ)) → length lines ≤ i → map numbered_line lines ≡ numbered_from 1 script
    → IsScriptRun (map numbered_line (take i lines)) w w' old (written_on b y) → Keeps b c → IsScriptRun (numbered_from 1 script) w w' old (written_on c y)
whole_at lines i script w w' old b c y past same run kept =
    let all : IsScriptRun (map numbered_line lines) w w' old (written_on b y) = subst (λ (ls : List Line). IsScriptRun (map numbered_line ls) w w' old (written_on b y)) (take_all i lines past) run in
    record {
      out = all.out;
      err = all.err;
      runs = subst (λ entries. RunsLines entries w w' all.out all.err) same all.runs;
      out_written = kept_written old.out b c all.out all.out_written kept;
      err_written = all.err_written;
    }

-- and those up to one that cannot be read, of which it is told
pub early_at : (lines : List Line) (number : ℕ) (line script : Text) (w w' : Simulation) (old : Written) (b c y z : Option (List ℕ)) → map numbered_line lines ≡ numbered_from 1 script
    → EndsAtLine (map numbered_line lines) number line w w' old (written_on b y) → Appends b c [] → Appends y z (unreadable_line number line) → EndsEarly script w w' old (written_on c z)
early_at lines number line script w w' old b c y z same ends kept told = record {
  number = number;
  before = ends.before;
  line = line;
  after = ends.after;
  lines_are = sym same ∙ ends.lines_are;
  unreadable = ends.unreadable;
  out = ends.run.out;
  err = ends.run.err;
  runs = ends.run.runs;
  out_written = subst (Appends old.out c) (append-nil ends.run.out) (both_written old.out b c ends.run.out [] ends.run.out_written kept);
  err_written = both_written old.err y z ends.run.err (unreadable_line number line) ends.run.err_written told;
}
