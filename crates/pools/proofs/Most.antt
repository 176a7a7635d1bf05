-- What is known of the code limit. Whoever builds on it cites these laws and not the number, so that another number is
-- one edit of the definition and one of the code.
use Prim.Native.Nat.{◌+◌, ◌*◌, ◌^◌, ◌<◌}
use native.Mathlib.Omega.{arith}
use Rattle.pools.specs.Sizes.{max_code}
use Rattle.pools.specs.Good.{max_targets}

-- offsets, depths and counts of instructions fit 32 bits
pub code_small : max_code < 2 ^ 21
unfolding max_code
code_small = omega arith

-- and so many instructions, each with the most targets and one edge more, four words for each, are far fewer than 64
-- bits can count
pub room_small : 4 * (1 + max_code * (max_targets + 1)) < 2 ^ 40
unfolding max_code
room_small = omega arith
