use Rattle.std.proofs.Common.{refl}
use Rattle.test_layers.proofs.tests.keys.is_in_buckets.Goals as goal

pub bucket_of-four-requires : goal.bucket_of-four-requires
bucket_of-four-requires c = (2, refl)
