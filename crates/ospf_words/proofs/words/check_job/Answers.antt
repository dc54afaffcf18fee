use Rattle.std.proofs.Common.{◌≡◌, ◌&&◌, ◌||◌, ◌∙◌, false, true, inl, inr, sym, refl, codes}
use Rattle.clap.specs.Words.{found_of, one_of, rows_of}
use Rattle.ospf_words.specs.Unasked.{in_check}
use Rattle.ospf_words.specs.Words.{IsFlag}
use Rattle.ospf_words.proofs.WordLemmas.{all_apart, apart_flags, is_telling, one_version, texts_of}
use Rattle.ospf_words.proofs.words.check_job.Goals as goal

pub returns-in_default : goal.returns-in_default
returns-in_default c =
    let found = found_of c.args.values.now in
    in_check (rows_of found) refl (inl (sym c.in_default.ensures))

pub returns-then-are_apart : goal.returns-then-are_apart
returns-then-are_apart c =
    let rows = rows_of (found_of c.args.values.now) in
    let apart : (c.has_flag-json.result && (c.has_flag-all.result || c.has_flag-lines.result)) ≡ true = sym c.are_apart.ensures ∙ c.if-are_apart.true in
    in_check rows refl (inr (apart_flags rows c.has_flag-all.result c.has_flag-json.result c.has_flag-lines.result c.has_flag-all.ensures c.has_flag-json.ensures c.has_flag-lines.ensures apart))

pub returns : goal.returns
returns c =
    let found = found_of c.args.values.now in
    let explain : IsFlag (one_of (codes "explain") (rows_of found)) c.has_flag-explain.result = c.has_flag-explain.ensures in
    let all : IsFlag (one_of (codes "all") (rows_of found)) c.has_flag-all.result = c.has_flag-all.ensures in
    let apart : (c.has_flag-json.result && (c.has_flag-all.result || c.has_flag-lines.result)) ≡ false = sym c.are_apart.ensures ∙ c.if-are_apart.false in (
      rows_of found,
      refl,
      record {
        texts = texts_of c.in-Some.files.now;
        has_files = sym c.in-Some.ensures;
        files = search (c.in_ok-files.ensures);
        how = rw c.telling_of-how.ensures (is_telling (rows_of found) c.has_flag-explain.result c.has_flag-all.result explain all);
        area = c.has_flag-area.ensures;
        json = c.has_flag-json.ensures;
        lines = c.has_flag-lines.ensures;
        apart = λ is. all_apart c.has_flag-explain.result c.has_flag-all.result c.has_flag-json.result c.has_flag-lines.result apart (sym c.telling_of-how.ensures ∙ is);
        one_version = λ is. one_version c.has_flag-all.result c.has_flag-json.result c.has_flag-lines.result apart is;
      },
    )
