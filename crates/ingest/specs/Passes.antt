-- The passes and their ranks. Assumes nothing.
use Rattle.std.specs.Prelude.{ℕ, cond, nat_lt}
use Rattle.ingest.specs.declared.record.ConversionPass.{ConversionPass}
use Rattle.ingest.specs.declared.record.ConversionPass.TheVariants.{Shared, Copied, Gathered, Widened}

abbrev pub rank_of : ConversionPass → ℕ
rank_of Shared = 0
rank_of Copied = 1
rank_of Gathered = 2
rank_of Widened = 3

-- the second of two passes where its rank is higher
abbrev pub higher_of : ConversionPass → ConversionPass → ConversionPass
higher_of p q = cond (nat_lt (rank_of p) (rank_of q)) q p
