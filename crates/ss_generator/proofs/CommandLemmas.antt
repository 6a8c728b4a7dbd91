-- What generated commands say.
use Rattle.std.proofs.Common.{◌≡◌, true, refl}
use Rattle.ss_catalog.specs.Names.{is_name}
use Rattle.ss_generator.specs.Commands.{stream}

-- the stream of all commands has a name
pub is_name-stream : is_name stream ≡ true
unfolding is_name
is_name-stream = refl
