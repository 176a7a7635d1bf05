-- One claim over the table of bench cases: the definition of the whole call gives each row's outcome. Both sides are computed,
-- and one law turns the equation of the lists into the claim at each row.
use mathlib.Core.List.{List, [], ◌∷◌, map}
use mathlib.Core.Path.{◌≡◌, refl}
use lib.Count.{ones}
use Rattle.before.specs.Before.{first, limits_test, tables_test, lent_test, rights_test, constants_test, function_test}
use Rattle.before.specs.Before.{width_test, indices_test, code_test, early_tests, late_tests, marks_of}
use Rattle.bench.specs.Bench.{word, BenchRow, answered, expected, bench}
use Rattle.code.specs.Layout.{among, layout, count_from, indices_from, little}
use Rattle.code.specs.Width.{width_of, width_by}
use Rattle.indices.specs.Indices as reference
use Rattle.listing.specs.Starts.{starts_by, starts_before, in_turn}
use Rattle.marks.specs.Marks.{marked, marked_all, total}
use Rattle.pools.specs.Pools.{entries}
use Rattle.pools.specs.Sizes.{max_code, limits, tells, first_over}
use Rattle.pools.specs.Tables as tables
use Rattle.pools.specs.Told as told
use Rattle.answer.specs.Answer.{numbered, refused, unless}
use Rattle.demand.specs.Chunk.{all_targets, needs_test, rule, judge, span_test, open_test, height_test, measured, walked}
use Rattle.demand.specs.Chunk.{judge_chunk}
use Rattle.demand.specs.Chunk as chunk
use Rattle.answer.specs.Depths.{agree}
use Rattle.rules.specs.Edges.{falls, plain, arms_of, targets_of, after_of, jumped_of, next, degree}
use Rattle.demand.specs.Span.{T, E}
use Rattle.rules.specs.Effects.{effect, operands_of, needs, pops, pushes}
use Rattle.machine.specs.Lists.{◌∈◌, here, there, sum_of}
use Rattle.machine.specs.Walk.{fall_to, run, push, first_bad_jump, seen, turn, lookup}
use Rattle.rules.specs.Needs.{iterators_needed, handlers_needed}
use Rattle.rules.specs.Rights.{required, lacking, of_name, of_chain}
use Rattle.verify.specs.Call.{verdict_on, marks_on, after_chunks, after_late_tests, after_early_tests}
use Rattle.judging.specs.Judging.{judge_all}

computed : map answered bench ≡ map expected bench
unfolding first limits_test tables_test lent_test rights_test constants_test function_test width_test indices_test code_test early_tests late_tests marks_of word answered among layout count_from indices_from little width_of width_by reference.first_bad_ref reference.size_of reference.in_code reference.in_record starts_by starts_before in_turn marked marked_all total entries max_code limits tells first_over tables.ragged tables.whole_table tables.first_bad_table told.first_told told.first_from numbered refused unless span_test chunk.room_test open_test height_test measured walked judge_chunk agree falls plain arms_of targets_of after_of jumped_of next degree T E effect operands_of needs pops pushes sum_of fall_to iterators_needed handlers_needed required lacking of_name of_chain all_targets needs_test rule judge push first_bad_jump seen turn run lookup verdict_on marks_on after_chunks after_late_tests after_early_tests judge_all ones
computed = refl

-- lists that are equal under two functions have the same of both at each element
same_at : {A B : Type 0} (f g : A → B) (l : List A) → map f l ≡ map g l → {x : A} → x ∈ l → f x ≡ g x
same_at f g [] e m = elim m [ ]
same_at f g (y ∷ l) e (here q) = rw q (cc)
same_at f g (y ∷ l) e (there m) = let rest : map f l ≡ map g l = cc in same_at f g l rest m

pub answers : (row : BenchRow) → row ∈ bench → answered row ≡ expected row
answers row m = same_at answered expected bench computed m
