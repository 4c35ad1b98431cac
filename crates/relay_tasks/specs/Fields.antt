-- How a field list fails to grow.
use Rattle.http_header.specs.declared.HeaderMapError.{HeaderMapError}
use Rattle.http_header.specs.declared.HeaderMapError.TheVariants as map
use Rattle.relay_tasks.specs.Error.{refused}
use Rattle.relay_tasks.specs.declared.error.Fail.{Fail}
use Rattle.relay_tasks.specs.declared.error.Fail.TheVariants as fail
use Rattle.relay_tasks.specs.declared.context.Context.TheVariants as about

-- a full map is a head that is too long; out of memory stays what it is
abbrev pub map_failure : HeaderMapError → Fail
map_failure map.MaxSizeReached = fail.Error (refused about.HeadTooLong)
map_failure map.OutOfMemory = fail.OutOfMemory
