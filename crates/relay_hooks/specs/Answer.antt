-- The answers that a hook may queue for the client (RFC 9110, section 15.2; RFC 9112, section 4).
use Rattle.std.specs.Prelude.{Bool, true, false, not, ◌&&◌, List, [], ◌∷◌, if◌then◌else◌}
use Rattle.relay_tasks.specs.declared.task.HttpTask.{HttpTask}
use Rattle.relay_tasks.specs.declared.task.HttpTask.TheVariants as task
use Rattle.relay_h1.specs.ClientHead.{is_informational}

-- there is no task
abbrev pub is_empty : List HttpTask → Bool
is_empty [] = true
is_empty (task ∷ tasks) = false

-- these are the pieces of a body and its end, with nothing behind it; `ended` says that it has
-- ended
abbrev pub is_body : Bool → List HttpTask → Bool
is_body true tasks = is_empty tasks
is_body false [] = false
is_body false (task.Header head end ∷ tasks) = false
is_body false (task.Body piece end ∷ tasks) = is_body end tasks
is_body false (task.UpgradedBody piece end ∷ tasks) = false
is_body false (task.Trailer fields ∷ tasks) = is_empty tasks
is_body false (task.Done ∷ tasks) = is_empty tasks
is_body false (task.Failed error ∷ tasks) = false

-- one whole final answer: informational heads, a final head, its body and its end
abbrev pub is_whole : List HttpTask → Bool
is_whole [] = false
is_whole (task.Header head end ∷ tasks) =
    if is_informational head.status then not end && is_whole tasks else is_body end tasks
is_whole (task.Body piece end ∷ tasks) = false
is_whole (task.UpgradedBody piece end ∷ tasks) = false
is_whole (task.Trailer fields ∷ tasks) = false
is_whole (task.Done ∷ tasks) = false
is_whole (task.Failed error ∷ tasks) = false

-- informational heads, and nothing else
abbrev pub only_informs : List HttpTask → Bool
only_informs [] = true
only_informs (task.Header head end ∷ tasks) =
    is_informational head.status && (not end && only_informs tasks)
only_informs (task.Body piece end ∷ tasks) = false
only_informs (task.UpgradedBody piece end ∷ tasks) = false
only_informs (task.Trailer fields ∷ tasks) = false
only_informs (task.Done ∷ tasks) = false
only_informs (task.Failed error ∷ tasks) = false

-- one answer, which may be an ending informational head: informational heads, a head, its
-- body and its end
abbrev pub is_answer : List HttpTask → Bool
is_answer [] = false
is_answer (task.Header head end ∷ tasks) =
    if is_informational head.status && not end then is_answer tasks else is_body end tasks
is_answer (task.Body piece end ∷ tasks) = false
is_answer (task.UpgradedBody piece end ∷ tasks) = false
is_answer (task.Trailer fields ∷ tasks) = false
is_answer (task.Done ∷ tasks) = false
is_answer (task.Failed error ∷ tasks) = false
