use Rattle.std.proofs.Common.{subst, arith, ◌≡◌, ◌∙◌, ◌<◌, ap, length, sym, refl, codes}
use Rattle.std.proofs.lemmas.Bool.Decides.{nat_tests}
use Rattle.std.proofs.lemmas.List.{nil_from_length}
use Rattle.clap.specs.Words.{found_of, one_of, rows_of}
use Rattle.ospf_words.specs.Words.{IsFlag, words_for}
use Rattle.ospf_words.proofs.WordLemmas.{texts_of, words_found}
use Rattle.ospf_words.proofs.words.table_job.Goals as goal

pub whole_job-requires : goal.whole_job-requires
whole_job-requires c =
    let found = found_of c.args.values.now in
    let names : texts_of c.unwrap_or-names.result.now ≡ words_for (codes "without") (rows_of found) =
    (words_found c.all_of.result _ c.unwrap_or-names.result _ refl c.unwrap_or-names.ensures c.all_of.ensures) in
    let empty = nil_from_length c.unwrap_or-names.result.now (grind (arith, nat_tests, c.if-is_empty.true, c.is_empty.ensures)) in
    record {
      whole = sym names ∙ ap texts_of empty;
      plain = subst (IsFlag (one_of (codes "json") (rows_of found))) c.if-has_flag-2.false c.has_flag-2.ensures;
      json2 = subst (IsFlag (one_of (codes "json2") (rows_of found))) c.if-has_flag.false c.has_flag.ensures;
    }

pub without_job-requires : goal.without_job-requires
without_job-requires c =
    let found = found_of c.args.values.now in
    let names : texts_of c.unwrap_or-names.result.now ≡ words_for (codes "without") (rows_of found) =
    (words_found c.all_of.result _ c.unwrap_or-names.result _ refl c.unwrap_or-names.ensures c.all_of.ensures) in
    let some : 0 < length c.unwrap_or-names.result.now = grind (arith, nat_tests, c.if-is_empty.false, c.is_empty.ensures) in
    record {
      names = names;
      some = λ none. let zero : length c.unwrap_or-names.result.now ≡ 0 = ap length none in omega arith;
      plain = subst (IsFlag (one_of (codes "json") (rows_of found))) c.if-has_flag-2.false c.has_flag-2.ensures;
      json2 = subst (IsFlag (one_of (codes "json2") (rows_of found))) c.if-has_flag.false c.has_flag.ensures;
    }

pub json_job-requires : goal.json_job-requires
json_job-requires c =
    let found = found_of c.args.values.now in
    record {
      json = subst (IsFlag (one_of (codes "json") (rows_of found))) c.if-has_flag-2.true c.has_flag-2.ensures;
      json2 = subst (IsFlag (one_of (codes "json2") (rows_of found))) c.if-has_flag.false c.has_flag.ensures;
    }

pub lines_job-requires : goal.lines_job-requires
lines_job-requires c =
    let found = found_of c.args.values.now in
    subst (IsFlag (one_of (codes "json2") (rows_of found))) c.if-has_flag.true c.has_flag.ensures
