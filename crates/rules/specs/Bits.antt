-- The rights and their bits. Document 01, "Tags": "Rights bits from 0 (ours): FUNCTION THIS INDEXING PROPERTY METHOD
-- FN_PTR CURRYING SHARING ARRAY MAP CUSTOM_SYNTAX EXPORT IMPORT MODULE FLOAT DECIMAL BLOB". The document's `_` is
-- written here as `-`. IMPORT and CUSTOM-SYNTAX are tags too, so a right is written behind its type: `Right.IMPORT`.
use Rattle.std.specs.Prelude.{ℕ, ◌^◌}

pub data Right : Type 0 where
  FUNCTION THIS INDEXING PROPERTY METHOD FN_PTR CURRYING SHARING ARRAY MAP CUSTOM_SYNTAX EXPORT IMPORT MODULE : Right
  FLOAT DECIMAL BLOB : Right

abbrev pub bit : Right → ℕ
bit FUNCTION = 2 ^ 0
bit THIS = 2 ^ 1
bit INDEXING = 2 ^ 2
bit PROPERTY = 2 ^ 3
bit METHOD = 2 ^ 4
bit FN_PTR = 2 ^ 5
bit CURRYING = 2 ^ 6
bit SHARING = 2 ^ 7
bit ARRAY = 2 ^ 8
bit MAP = 2 ^ 9
bit CUSTOM_SYNTAX = 2 ^ 10
bit EXPORT = 2 ^ 11
bit IMPORT = 2 ^ 12
bit MODULE = 2 ^ 13
bit FLOAT = 2 ^ 14
bit DECIMAL = 2 ^ 15
bit BLOB = 2 ^ 16
