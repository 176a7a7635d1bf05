-- `rules::shapes::shape_of` meets its contract: the word of each arm passes the tests at its tag.
use borrow.Author.Rules.{rules}
use Rattle.rules.proofs.ShapeWords.{fits_tag, fits, fits_none}
use Rattle.rules.proofs.shapes.shape_of.Goals as goal

pub returns-in-1 : goal.returns-in-1
unfolding fits_tag
returns-in-1 c = fits 1 c.in-1.is tt

pub returns-in-2 : goal.returns-in-2
unfolding fits_tag
returns-in-2 c = fits 2 c.in-2.is tt

pub returns-in-3 : goal.returns-in-3
unfolding fits_tag
returns-in-3 c = fits 3 c.in-3.is tt

pub returns-in-4 : goal.returns-in-4
unfolding fits_tag
returns-in-4 c = fits 4 c.in-4.is tt

pub returns-in-5 : goal.returns-in-5
unfolding fits_tag
returns-in-5 c = fits 5 c.in-5.is tt

pub returns-in-6 : goal.returns-in-6
unfolding fits_tag
returns-in-6 c = fits 6 c.in-6.is tt

pub returns-in-7 : goal.returns-in-7
unfolding fits_tag
returns-in-7 c = fits 7 c.in-7.is tt

pub returns-in-8 : goal.returns-in-8
unfolding fits_tag
returns-in-8 c = fits 8 c.in-8.is tt

pub returns-in-9 : goal.returns-in-9
unfolding fits_tag
returns-in-9 c = fits 9 c.in-9.is tt

pub returns-in-10 : goal.returns-in-10
unfolding fits_tag
returns-in-10 c = fits 10 c.in-10.is tt

pub returns-in-11 : goal.returns-in-11
unfolding fits_tag
returns-in-11 c = fits 11 c.in-11.is tt

pub returns-in-12 : goal.returns-in-12
unfolding fits_tag
returns-in-12 c = fits 12 c.in-12.is tt

pub returns-in-13 : goal.returns-in-13
unfolding fits_tag
returns-in-13 c = fits 13 c.in-13.is tt

pub returns-in-14 : goal.returns-in-14
unfolding fits_tag
returns-in-14 c = fits 14 c.in-14.is tt

pub returns-in-15 : goal.returns-in-15
unfolding fits_tag
returns-in-15 c = fits 15 c.in-15.is tt

pub returns-in-16 : goal.returns-in-16
unfolding fits_tag
returns-in-16 c = fits 16 c.in-16.is tt

pub returns-in-17 : goal.returns-in-17
unfolding fits_tag
returns-in-17 c = fits 17 c.in-17.is tt

pub returns-in-18 : goal.returns-in-18
unfolding fits_tag
returns-in-18 c = fits 18 c.in-18.is tt

pub returns-in-19 : goal.returns-in-19
unfolding fits_tag
returns-in-19 c = fits 19 c.in-19.is tt

pub returns-in-20 : goal.returns-in-20
unfolding fits_tag
returns-in-20 c = fits 20 c.in-20.is tt

pub returns-in-21 : goal.returns-in-21
unfolding fits_tag
returns-in-21 c = fits 21 c.in-21.is tt

pub returns-in-22 : goal.returns-in-22
unfolding fits_tag
returns-in-22 c = fits 22 c.in-22.is tt

pub returns-in-23 : goal.returns-in-23
unfolding fits_tag
returns-in-23 c = fits 23 c.in-23.is tt

pub returns-in-24 : goal.returns-in-24
unfolding fits_tag
returns-in-24 c = fits 24 c.in-24.is tt

pub returns-in-25 : goal.returns-in-25
unfolding fits_tag
returns-in-25 c = fits 25 c.in-25.is tt

pub returns-in-26 : goal.returns-in-26
unfolding fits_tag
returns-in-26 c = fits 26 c.in-26.is tt

pub returns-in-27 : goal.returns-in-27
unfolding fits_tag
returns-in-27 c = fits 27 c.in-27.is tt

pub returns-in-28 : goal.returns-in-28
unfolding fits_tag
returns-in-28 c = fits 28 c.in-28.is tt

pub returns-in-29 : goal.returns-in-29
unfolding fits_tag
returns-in-29 c = fits 29 c.in-29.is tt

pub returns-in-30 : goal.returns-in-30
unfolding fits_tag
returns-in-30 c = fits 30 c.in-30.is tt

pub returns-in-31 : goal.returns-in-31
unfolding fits_tag
returns-in-31 c = fits 31 c.in-31.is tt

pub returns-in-32 : goal.returns-in-32
unfolding fits_tag
returns-in-32 c = fits 32 c.in-32.is tt

pub returns-in-33 : goal.returns-in-33
unfolding fits_tag
returns-in-33 c = fits 33 c.in-33.is tt

pub returns-in-34 : goal.returns-in-34
unfolding fits_tag
returns-in-34 c = fits 34 c.in-34.is tt

pub returns-in-35 : goal.returns-in-35
unfolding fits_tag
returns-in-35 c = fits 35 c.in-35.is tt

pub returns-in-36 : goal.returns-in-36
unfolding fits_tag
returns-in-36 c = fits 36 c.in-36.is tt

pub returns-in-37 : goal.returns-in-37
unfolding fits_tag
returns-in-37 c = fits 37 c.in-37.is tt

pub returns-in-38 : goal.returns-in-38
unfolding fits_tag
returns-in-38 c = fits 38 c.in-38.is tt

pub returns-in-39 : goal.returns-in-39
unfolding fits_tag
returns-in-39 c = fits 39 c.in-39.is tt

pub returns-in-40 : goal.returns-in-40
unfolding fits_tag
returns-in-40 c = fits 40 c.in-40.is tt

pub returns-in-41 : goal.returns-in-41
unfolding fits_tag
returns-in-41 c = fits 41 c.in-41.is tt

pub returns-in-42 : goal.returns-in-42
unfolding fits_tag
returns-in-42 c = fits 42 c.in-42.is tt

pub returns-in-43 : goal.returns-in-43
unfolding fits_tag
returns-in-43 c = fits 43 c.in-43.is tt

pub returns-in-44 : goal.returns-in-44
unfolding fits_tag
returns-in-44 c = fits 44 c.in-44.is tt

pub returns-in-45 : goal.returns-in-45
unfolding fits_tag
returns-in-45 c = fits 45 c.in-45.is tt

pub returns-in-46 : goal.returns-in-46
unfolding fits_tag
returns-in-46 c = fits 46 c.in-46.is tt

pub returns-in-47 : goal.returns-in-47
unfolding fits_tag
returns-in-47 c = fits 47 c.in-47.is tt

pub returns-in-48 : goal.returns-in-48
unfolding fits_tag
returns-in-48 c = fits 48 c.in-48.is tt

pub returns-in-49 : goal.returns-in-49
unfolding fits_tag
returns-in-49 c = fits 49 c.in-49.is tt

pub returns-in-50 : goal.returns-in-50
unfolding fits_tag
returns-in-50 c = fits 50 c.in-50.is tt

pub returns-in-51 : goal.returns-in-51
unfolding fits_tag
returns-in-51 c = fits 51 c.in-51.is tt

pub returns-in-52 : goal.returns-in-52
unfolding fits_tag
returns-in-52 c = fits 52 c.in-52.is tt

pub returns-in-53 : goal.returns-in-53
unfolding fits_tag
returns-in-53 c = fits 53 c.in-53.is tt

pub returns-in-54 : goal.returns-in-54
unfolding fits_tag
returns-in-54 c = fits 54 c.in-54.is tt

pub returns-in-55 : goal.returns-in-55
unfolding fits_tag
returns-in-55 c = fits 55 c.in-55.is tt

pub returns-in-56 : goal.returns-in-56
unfolding fits_tag
returns-in-56 c = fits 56 c.in-56.is tt

pub returns-in-57 : goal.returns-in-57
unfolding fits_tag
returns-in-57 c = fits 57 c.in-57.is tt

pub returns-in-58 : goal.returns-in-58
unfolding fits_tag
returns-in-58 c = fits 58 c.in-58.is tt

pub returns-in-59 : goal.returns-in-59
unfolding fits_tag
returns-in-59 c = fits 59 c.in-59.is tt

pub returns-in-60 : goal.returns-in-60
unfolding fits_tag
returns-in-60 c = fits 60 c.in-60.is tt

pub returns-in-61 : goal.returns-in-61
unfolding fits_tag
returns-in-61 c = fits 61 c.in-61.is tt

pub returns-in-62 : goal.returns-in-62
unfolding fits_tag
returns-in-62 c = fits 62 c.in-62.is tt

pub returns-in-63 : goal.returns-in-63
unfolding fits_tag
returns-in-63 c = fits 63 c.in-63.is tt

pub returns-in-64 : goal.returns-in-64
unfolding fits_tag
returns-in-64 c = fits 64 c.in-64.is tt

pub returns-in-65 : goal.returns-in-65
unfolding fits_tag
returns-in-65 c = fits 65 c.in-65.is tt

pub returns-in-66 : goal.returns-in-66
unfolding fits_tag
returns-in-66 c = fits 66 c.in-66.is tt

pub returns-in-67 : goal.returns-in-67
unfolding fits_tag
returns-in-67 c = fits 67 c.in-67.is tt

pub returns-in-68 : goal.returns-in-68
unfolding fits_tag
returns-in-68 c = fits 68 c.in-68.is tt

pub returns-in-69 : goal.returns-in-69
unfolding fits_tag
returns-in-69 c = fits 69 c.in-69.is tt

pub returns-in-70 : goal.returns-in-70
unfolding fits_tag
returns-in-70 c = fits 70 c.in-70.is tt

pub returns-in-71 : goal.returns-in-71
unfolding fits_tag
returns-in-71 c = fits 71 c.in-71.is tt

pub returns-in-79 : goal.returns-in-79
unfolding fits_tag
returns-in-79 c = fits 79 c.in-79.is tt

pub returns-in_default : goal.returns-in_default
returns-in_default c = fits_none c.args.tag (search rules) c.in_default.in_default-own.rest
